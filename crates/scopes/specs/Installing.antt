-- inst as an edit on words, as the code goes.
use Rattle.std.specs.Prelude.{ℕ, Bool, true, cond, List, ltb, eqb}
use Rattle.skipping.specs.Pass.{pass_list}
use Rattle.layout.specs.declared.limit.Limits.{Limits}
use Rattle.layout.specs.Positions.{onward}
use Rattle.finding.specs.declared.find.Site.{Site}
use Rattle.handling.specs.Updating.{update_w}
use Rattle.rules.specs.Storing.{unchanged}
use Rattle.rules.specs.Editing.{Edited, edited, refused_edit, nil_w}

unfoldable pub too_deep_w : Limits → ℕ → ℕ → Bool
too_deep_w limits level levels = cond (ltb limits.deepest levels) true (ltb limits.deepest (onward level levels))

unfoldable pub updated_w : List ℕ → List ℕ → Site → ℕ → ℕ → List ℕ → Edited
updated_w ws notes s l f fresh = nil_w s l (pass_list 64 ws notes l) f unchanged fresh

unfoldable pub installed_w : Limits → List ℕ → List ℕ → ℕ → Site → List ℕ → Edited
installed_w limits ws notes start s fresh =
    cond (eqb s.scope 0) (nil_w s start start 0 unchanged fresh)
    (let u = update_w 64 ws (onward s.scope 2) (onward s.at 1) fresh in
    cond (too_deep_w limits s.scope_level u.answer.levels) (edited (refused_edit 8) u.out)
    (updated_w ws notes s (onward s.scope 2) u.answer.to u.out))
