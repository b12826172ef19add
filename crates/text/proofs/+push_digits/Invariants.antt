-- One digit fewer is left to push at each call.
use Rattle.text.proofs.+push_digits.Given as goal

abbrev pub decreases-push_digits : goal.decreases-push_digits
decreases-push_digits l = l.k
