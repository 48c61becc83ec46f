-- A step of one engine alone is the definitions'.
-- Assumes nothing.
use Prim.Native.Nat.{ℕ, ◌+◌, ◌-◌, ◌*◌, ◌≤◌}
use native.Mathlib.Omega.{arith}
use mathlib.Core.Path.{◌≡◌, refl, sym, ap, ◌∙◌}
use mathlib.Core.Bool.{Bool, true, false, cond}
use mathlib.Core.Option.{Option, none, some}
use mathlib.Core.List.{List}
use borrow.Author.Tests.{ltb-false}
use lib.Dec.{ltb, lit<}
use lib.ListN.{length, get_or, length-replicate}
use Rattle.sock.specs.Term.{kind}
use Rattle.sock.specs.Running.{Run, as_node, size}
use Rattle.sock.specs.Configuration.{Config}
use Rattle.sock.specs.Frames.{Located}
use Rattle.sock.specs.Rules.{alone, unvalued, move_of}
use Rattle.sock.specs.Calls.{Spot as Place, not_decimal, installing, refused, engine_at}
use Rattle.sock.proofs.Located.{start_of}
use Rattle.reading.specs.Survey.{Starts}
use Rattle.reading.proofs.Combining.{Words}
use Rattle.reading.proofs.Known.{Known, known_length}
use Rattle.reading.proofs.Standing.{start_next}
use Rattle.skipping.proofs.Notes.{Right}
use Rattle.finding.specs.declared.find.Site.{Site}
use Rattle.rules.specs.Editing.{Edited}
use Rattle.writers.proofs.Laid.{Near, near_of}
use Rattle.rules.proofs.Outcomes.{Ruled, unkillable, too_deep, ruled}
use Rattle.rules.proofs.Stores.{stored}
use Rattle.scopes.proofs.Scratch.{Roomy, Spacious}
use Rattle.layout.specs.declared.limit.Limits.{Limits}
use Rattle.layout.specs.Limits.{figures}
use Rattle.rules.specs.declared.edit.Side.{Side}
use Rattle.stepping.proofs.Modest.{Modest}
use Rattle.stepping.specs.Answering.{Answered, answered, refusing, one_w}
use Rattle.stepping.specs.Alone.{rule_w, lone_w, large, small, short_w, alone_w, surely}
use Rattle.stepping.proofs.Goal.{given, given_refused}
use Rattle.stepping.proofs.Given.{one_refused, one_deep, one_given}
use Rattle.stepping.proofs.Whole.{lone_of}
use Rattle.stepping.proofs.Lone.{known_lone, known_unvalued}
use Rattle.stepping.proofs.Seeking.{Seen, placed}

large_length : length large ≡ 16384
large_length = length-replicate {A = ℕ} 16384 0

small_length : length small ≡ 1024
small_length = length-replicate {A = ℕ} 1024 0

module _ (ws : List ℕ) (ok : Words ws) (s : Starts) {limits : Limits} (modest : Modest limits) (known : Known (figures limits) ws s) (e target : ℕ) (l : Located) (sp : Site) (seen : Seen ws ok s modest known e target l sp) where
  abbrev c : Config
  c = known.config

  abbrev start : ℕ
  start = start_of c e

  abbrev end : ℕ
  end = start + size (engine_at c e).process

  abbrev bound : ℕ
  bound = length c.engines * 65536 + c.issued

  abbrev k : ℕ
  k = kind (as_node l.process)

  abbrev a : Place
  a = placed ws ok s modest known e l

  -- the process found, where the survey says that its engine's process is, and where that is
  abbrev side : Side
  side = record { start = get_or s.starts e 0; end = get_or s.starts (e + 1) 0 - 64; site = sp }

  abbrev own : Side
  own = record { start = start; end = end; site = sp }

  short : length ws ≤ limits.longest
  short = (known_length known).1

  by_rule :
      (u : Edited) (vs' : List ℕ) (q : Option Run) → Ruled limits.deepest ws start end u.edit u.fresh q →
      (u.edit.number ≡ 0 → vs' ≡ stored (engine_at c e).values u.edit.store) → (out : List ℕ) →
      one_w limits ws start end u.edit k u.fresh out ≡ given (lone_of limits c a vs' q (length out)) out
  unfolding lone_of
  by_rule u vs' none (unkillable z) v out =
      one_refused modest c known.readable.fitting known.readable.shallow ws known.same short e seen.inside u.edit u.fresh k out (λ y. omega arith)
      ∙ (ap (λ n. answered (refusing n) out) z ∙ sym (given_refused installing out))
  by_rule u vs' (some q) (too_deep z d) v out =
      one_deep modest c known.readable.fitting known.readable.shallow ws known.same short e seen.inside u.edit u.fresh k out vs' q z d
  by_rule u vs' (some q) (ruled z edits d) v out =
      one_given modest c known.readable.fitting known.readable.shallow ws known.same short e seen.inside u.edit u.fresh k out vs' q z edits d (v z)

  first : get_or s.starts e 0 ≡ start
  first = known.starts e (omega (arith, seen.inside))

  last : get_or s.starts (e + 1) 0 - 64 ≡ end
  last =
      let y : get_or s.starts (e + 1) 0 ≡ start_of c (e + 1) = known.starts (e + 1) (omega (arith, seen.inside)) in
      let z = start_next c known.readable.fitting e seen.inside in
      omega arith

  -- the answer and the output of a step alone, if they are the same whatever the scratch is that has room
  by_scratch :
      (notes : List ℕ) → (out : List ℕ) (answer : Answered) →
      ((fresh : List ℕ) → Roomy ws fresh → Spacious (rule_w limits ws notes own k bound fresh) fresh → Near (length fresh) →
      (let u = rule_w limits ws notes own k bound fresh in
      one_w limits ws start end u.edit k u.fresh out ≡ answer)) →
      alone_w limits ws notes side k bound out ≡ answer
  unfolding alone_w short_w lone_w
  by_scratch notes out answer rule = by (ltb 512 (length ws)) (ltb surely (rule_w limits ws notes side k bound small).edit.fresh) refl refl
    where
      scratched :
          (fresh : List ℕ) → Roomy ws fresh → Spacious (rule_w limits ws notes own k bound fresh) fresh → Near (length fresh) →
          lone_w limits ws notes side k bound fresh out ≡ answer
      scratched fresh room wide big = rw (first, last) (rule fresh room wide big)

      in_large : lone_w limits ws notes side k bound large out ≡ answer
      in_large =
          scratched large (record { twice = omega (arith, large_length, short, modest.few); few = omega (arith, large_length) })
          (λ h. omega (arith, large_length)) (rw large_length (near_of 16384 (lit< tt)))

      by :
          (b d : Bool) → ltb 512 (length ws) ≡ b → ltb surely (rule_w limits ws notes side k bound small).edit.fresh ≡ d →
          cond b (lone_w limits ws notes side k bound large out)
          (cond d (lone_w limits ws notes side k bound large out)
          (lone_w limits ws notes side k bound small out))
          ≡ answer
      by true d p r = in_large
      by false true p r = in_large
      by false false p r =
          let few : length ws ≤ 512 = ltb-false 512 (length ws) p in
          let spare : (rule_w limits ws notes own k bound small).edit.fresh ≤ surely =
          rw (first, last) at (ltb-false surely (rule_w limits ws notes side k bound small).edit.fresh r) in
          scratched small (record { twice = omega (arith, small_length, few); few = omega (arith, small_length) })
          (λ h. omega (arith, spare, small_length)) (rw small_length (near_of 1024 (lit< tt)))

  pub lone_law :
      (notes : List ℕ) → Right ws notes → (vs' : List ℕ) (q : Option Run) → move_of (engine_at c e).values l.frames l.process ≡ alone vs' q → (out : List ℕ) →
      alone_w limits ws notes side k bound out ≡ given (lone_of limits c a vs' q (length out)) out
  lone_law notes right vs' q m out =
      by_scratch notes out _ λ fresh room wide big.
      let r = known_lone ws ok s modest known e seen.inside target l sp seen.place seen.spotted _ notes right fresh room wide big vs' q m in
      by_rule (rule_w limits ws notes own k bound fresh) vs' q r.0 r.1 out

  -- an expression that has no value
  pub unvalued_law :
      (notes : List ℕ) → Right ws notes → move_of (engine_at c e).values l.frames l.process ≡ unvalued → (out : List ℕ) →
      alone_w limits ws notes side k bound out ≡ given (refused not_decimal) out
  unvalued_law notes right m out =
      by_scratch notes out _ λ fresh room wide big.
      let u = rule_w limits ws notes own k bound fresh in
      let z : u.edit.number ≡ 13 = known_unvalued ws ok s modest known e seen.inside target l sp seen.place seen.spotted _ notes right fresh room wide big m in
      one_refused modest c known.readable.fitting known.readable.shallow ws known.same short e seen.inside u.edit u.fresh k out (λ y. omega (arith, y, z))
      ∙ (ap (λ n. answered (refusing n) out) z ∙ sym (given_refused not_decimal out))
