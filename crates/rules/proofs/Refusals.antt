-- A rule that refuses makes an edit that refuses.
-- Assumes nothing.
use Prim.Native.Nat.{ℕ}
use mathlib.Core.Path.{◌≡◌, refl}
use mathlib.Core.List.{List}
use Rattle.layout.specs.Refusals.{refusal_number}
use Rattle.layout.specs.declared.refusal.Refusal.{Refusal}
use Rattle.layout.proofs.Refusing.{never_zero}
use Rattle.finding.specs.declared.find.Site.{Site}
use Rattle.rules.specs.Rewriting.{Rewriting, refused}
use Rattle.rules.specs.Editing.{edited, refused_edit, plain_w}

pub plain_refused :
    (s : Site) (start : ℕ) (t : Rewriting) (fresh : List ℕ) (r : Refusal) → refused (refusal_number r) ≡ t →
    plain_w s start t fresh ≡ edited (refused_edit (refusal_number r)) fresh
unfolding plain_w
plain_refused s start t fresh r e = rw (← e, never_zero r) refl
