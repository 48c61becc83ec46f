-- What the step is to answer and to leave, by the definitions; and its last tests, in their order.
-- Assumes nothing.
use Prim.Native.Nat.{ℕ, ◌≤◌, ◌<◌}
use mathlib.Core.Path.{◌≡◌, refl}
use mathlib.Core.Bool.{Bool, true, false, cond}
use mathlib.Core.List.{List}
use borrow.Author.Tests.{le-ltb, lt-ltb, le-leb, lt-leb, leb-true, leb-false}
use lib.Dec.{leb, ltb, eqb}
use lib.ListN.{length}
use Rattle.sock.specs.Configuration.{encode, engines_depth}
use Rattle.sock.specs.Calls.{Refusal, serials_spent, deep, long, short, Result, refused, done, ◌>>◌, ◌unless◌, Stepped, answer_of, output_of, over, number}
use Rattle.layout.specs.declared.limit.Limits.{Limits}
use Rattle.stepping.specs.Answering.{Answered, answered, refusing, accepting, length_of}

-- the answer and the output of a result
abbrev pub given : Result Stepped → List ℕ → Answered
given r out = answered (answer_of r) (output_of r out)

-- the tests of what a rule makes
unfoldable pub fitted : Limits → ℕ → Stepped → Result Stepped
fitted limits room s =
    ◌>>◌ (serials_spent unless leb s.config.issued 65535)
    (◌>>◌ (deep unless leb (engines_depth s.config.engines) limits.deepest)
    (◌>>◌ (long unless leb (length (encode s.config)) limits.longest) (◌>>◌ (short unless leb (length (encode s.config)) room) (done s))))

pub given_refused : (r : Refusal) (out : List ℕ) → given (refused r) out ≡ answered (refusing (number r)) out
unfolding answer_of output_of
given_refused r out = refl

-- too deep
pub fitted_deep :
    (limits : Limits) (s : Stepped) (out : List ℕ) → s.config.issued ≤ 65535 → limits.deepest < engines_depth s.config.engines → given (fitted limits (length out) s) out ≡ answered (refusing 8) out
unfolding fitted ◌>>◌ ◌unless◌ answer_of output_of
fitted_deep limits s out a h = rw (le-leb s.config.issued 65535 a, lt-leb (engines_depth s.config.engines) limits.deepest h)

pub fitted_spent : (limits : Limits) (s : Stepped) (out : List ℕ) → 65535 < s.config.issued → given (fitted limits (length out) s) out ≡ answered (refusing 7) out
unfolding fitted ◌>>◌ ◌unless◌ answer_of output_of
fitted_spent limits s out a = rw (lt-leb s.config.issued 65535 a)

-- by its length
pub fitted_by :
    (limits : Limits) (s : Stepped) (out last : List ℕ) (size told : ℕ) → s.config.issued ≤ 65535 → engines_depth s.config.engines ≤ limits.deepest →
    length_of limits size (length out) ≡ length_of limits (length (encode s.config)) (length out) →
    (length (encode s.config) ≤ limits.longest → length (encode s.config) ≤ length out → (told ≡ length (encode s.config)) × (last ≡ over (encode s.config) out)) →
    cond (eqb (length_of limits size (length out)) 0) (answered (accepting s.kind s.serial s.fault told) last) (answered (refusing (length_of limits size (length out))) out)
    ≡ given (fitted limits (length out) s) out
unfolding fitted ◌>>◌ ◌unless◌ answer_of output_of length_of
fitted_by limits s out last size told a b e f = rw (e, le-leb s.config.issued 65535 a, le-leb (engines_depth s.config.engines) limits.deepest b) (by (leb (length (encode s.config)) limits.longest) (leb (length (encode s.config)) (length out)) refl refl)
  where
    n : ℕ
    n = length (encode s.config)

    by :
        (x y : Bool) → leb (length (encode s.config)) limits.longest ≡ x → leb (length (encode s.config)) (length out) ≡ y →
        cond (eqb (cond (ltb limits.longest (length (encode s.config))) 9 (cond (ltb (length out) (length (encode s.config))) 10 0)) 0)
        (answered (accepting s.kind s.serial s.fault told) last)
        (answered (refusing (cond (ltb limits.longest (length (encode s.config))) 9 (cond (ltb (length out) (length (encode s.config))) 10 0))) out)
        ≡ given (◌>>◌ (long unless x) (◌>>◌ (short unless y) (done s))) out
    by false y p q = rw (lt-ltb limits.longest (length (encode s.config)) (leb-false (length (encode s.config)) limits.longest p))
    by true false p q =
        rw (le-ltb limits.longest (length (encode s.config)) (leb-true (length (encode s.config)) limits.longest p), lt-ltb (length out) (length (encode s.config)) (leb-false (length (encode s.config)) (length out) q))
    by true true p q =
        let g = f (leb-true (length (encode s.config)) limits.longest p) (leb-true (length (encode s.config)) (length out) q) in
        rw (le-ltb limits.longest (length (encode s.config)) (leb-true (length (encode s.config)) limits.longest p), le-ltb (length out) (length (encode s.config)) (leb-true (length (encode s.config)) (length out) q), g.0, g.1)
