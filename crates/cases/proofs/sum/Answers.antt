-- `sum` meets its contract: the definition's recursion is the chain's fold.
use Rattle.std.proofs.Common.{◌≡◌, ℕ, ◌+◌, ◌*◌, ◌%◌, ◌^◌, List, [], ◌∷◌, rules, arith, ap, refl, sym, ◌∙◌}
use Rattle.std.specs.List.{fold}
use Rattle.cases.specs.Sums.{round, summed}
use Rattle.cases.proofs.sum.Goals as goal

-- the closure's word: three times the sum, and the word
tripled : (s w : ℕ) → round (round (round s s) s) w ≡ (s * 3 % 2 ^ 16 + w) % 2 ^ 16
tripled s w = omega arith

summed_fold : (s : ℕ) (ws : List ℕ) → summed s ws ≡ fold (λ s w. (s * 3 % 2 ^ 16 + w) % 2 ^ 16) s ws
unfolding summed
summed_fold s [] = refl
summed_fold s (w ∷ ws) = ap (λ t. summed t ws) (tripled s w) ∙ summed_fold ((s * 3 % 2 ^ 16 + w) % 2 ^ 16) ws

pub returns : goal.returns
returns c =
    let folded : c.fold.result ≡ fold (λ s w. (s * 3 % 2 ^ 16 + w) % 2 ^ 16) 0 c.args.ws.now = search rules in
    folded ∙ sym (summed_fold 0 c.args.ws.now)
