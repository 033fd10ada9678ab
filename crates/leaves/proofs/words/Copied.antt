-- What is copied, where there is room for it.
use Rattle.std.proofs.Common.{◌≡◌, ◌≤◌, List, length, le-ltb}
use Rattle.laws.specs.Lists.{laid}
use Rattle.leaves.specs.Words.{copied}

pub copied_whole : {A : Type 0} → (from out : List A) → length from ≤ length out → copied from out ≡ laid from out
unfolding copied
copied_whole from out h = simp (le-ltb (length out) (length from) h)
