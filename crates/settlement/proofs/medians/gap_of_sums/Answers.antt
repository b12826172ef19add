-- `settlement::medians::gap_of_sums` answers the rounded gap where that is allowed (proofs/Gaps.antt).
use Rattle.std.proofs.Common.{arith, rules}
use Rattle.settlement.proofs.Gaps.{gap_is, gap_early, allowed, too_long}
use Rattle.settlement.proofs.medians.gap_of_sums.Goals as goal

pub returns-then-end-start : goal.returns-then-end-start
returns-then-end-start c = simp (gap_early c.args.earlier c.args.later (omega arith)) search rules

pub returns-then-n-gt-MOST_HUNDREDTHS : goal.returns-then-n-gt-MOST_HUNDREDTHS
returns-then-n-gt-MOST_HUNDREDTHS c = simp (gap_is c.args.earlier c.args.later (omega arith), too_long _ c.if-n-gt-MOST_HUNDREDTHS.true) search rules

pub returns : goal.returns
returns c = simp (gap_is c.args.earlier c.args.later (omega arith), allowed _ c.if-n-gt-MOST_HUNDREDTHS.false) search rules
