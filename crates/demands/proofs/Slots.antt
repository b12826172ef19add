-- Where the entries of a valid log stand. Assumes nothing.
use mathlib.Core.Path.{◌≡◌, ap, ◌∙◌}
use Prim.Native.Nat.{ℕ, ◌+◌, ◌-◌, ◌≤◌, ◌<◌}
use native.Mathlib.Omega.{arith}
use lib.ListN.{length, get_or, drop, length-drop}
use lib.Seq.{get_or-take, get_or-drop}
use Rattle.lists.proofs.Lists.{all_at, pairwise_at}
use Rattle.outage.specs.declared.Log.{Log}
use Rattle.entries.specs.Row.{key_of, ahead, lost_in, is_zero, zero_entry}
use Rattle.outage.specs.Log.{slots, most_mw, row_of, log_entries}
use Rattle.entries.proofs.Keys.{Before, before_says}
use Rattle.entries.proofs.Rows.{Valid, valid_says, zero_is}
use Rattle.outage.proofs.LogHolding.{log_entries_length}
use Rattle.demands.specs.Log.{slot}
use Rattle.outage.proofs.Sound.{Sound}

module _ (log : Log) (o : Sound log) where
  whole : Valid (row_of log)
  whole = valid_says (row_of log) o.valid

  -- a slot before the count is an entry
  at_entry : (i : ℕ) → i < log.count → get_or (log_entries log) i zero_entry ≡ slot log i
  at_entry i h = get_or-take log.count log.entries i zero_entry h

  count_entry : (i : ℕ) → i < log.count → i < length (log_entries log)
  count_entry i h = omega (arith, log_entries_length log o.rows o.valid)

  pub in_order : (i j : ℕ) → i < j → j < log.count → Before (key_of (slot log i)) (key_of (slot log j))
  in_order i j h k =
      let r = pairwise_at ahead zero_entry (log_entries log) whole.rules.order i j h (count_entry j k) in
      before_says (key_of (slot log i)) (key_of (slot log j)) (rw (at_entry i (omega arith), at_entry j k) at r)

  pub none_above : (minute : ℕ) → lost_in (log_entries log) minute ≤ most_mw
  none_above = whole.rules.rated

  pub free_zero : (i : ℕ) → log.count ≤ i → i < slots → slot log i ≡ zero_entry
  free_zero i h k =
      let e : log.count + (i - log.count) ≡ i = omega arith in
      let f : get_or (drop log.count log.entries) (i - log.count) zero_entry ≡ slot log i =
      get_or-drop log.count log.entries (i - log.count) zero_entry ∙ ap (slot log) e in
      let z = all_at is_zero zero_entry (drop log.count log.entries) whole.free (i - log.count) (omega (arith, length-drop log.count log.entries, o.rows)) in
      zero_is (slot log i) (rw f at z)
