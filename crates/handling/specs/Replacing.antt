-- cH replaced on words, as the code goes: the place reached, and the output.
use Rattle.std.specs.Prelude.{ℕ, zero, suc, ◌-◌, ◌*◌, max, Bool, true, false, cond, List, [], ◌∷◌, leb, length, get_or, set}
use Rattle.sock.specs.Kind
use Rattle.sock.specs.Words.{kind_of, count_of, head_of}
use Rattle.layout.specs.Own.{own_end}
use Rattle.layout.specs.Positions.{onward}
use Rattle.writers.specs.Writing.{pasted, pasted_end, lowered}
use Rattle.handling.specs.Measuring.{expression_levels, code_levels}
use Rattle.handling.specs.declared.measure.Measured.{Measured}
use Rattle.handling.specs.declared.replace.Rebuilt.{Rebuilt}
use Rattle.handling.specs.declared.replace.Old.{Old}

-- what a walk answers, and the output afterwards
pub record Wrote : Type 0 where
  pub answer : Rebuilt
  pub out : List ℕ

abbrev pub wrote : ℕ → ℕ → Bool → ℕ → List ℕ → Wrote
wrote end to nil levels out = record { answer = record { end = end; to = to; nil = nil; levels = levels }; out = out }

abbrev pub Walk : Type 0
Walk = ℕ → List ℕ → ℕ → Wrote

-- of what is not there nothing is written
abbrev pub missing : Rebuilt
missing = record { end = 0; to = 0; nil = false; levels = 0 }

unfoldable pub old_end : List ℕ → Old → ℕ → ℕ
old_end ws old to = cond old.nil (onward to 1) (pasted_end ws old.from old.upto to)

unfoldable pub old_out : List ℕ → Old → List ℕ → ℕ → List ℕ
old_out ws old out to = cond old.nil (set out to 0) (pasted ws old.from old.upto out to)

-- the second part where the first became nil, else both
unfoldable pub after_first : Walk → Wrote → List ℕ → ℕ → Wrote
after_first sub p out to =
    cond p.answer.nil (sub p.answer.end p.out to)
    (let q = sub p.answer.end p.out p.answer.to in
    wrote q.answer.end q.answer.to false (onward (max p.answer.levels q.answer.levels) 1) q.out)

unfoldable pub seq_w : Walk → ℕ → List ℕ → ℕ → Wrote
seq_w sub i out to = after_first sub (sub (onward i 1) (set out to (head_of Kind.seq 0)) (onward to 1)) out to

unfoldable pub close_par : Wrote → Wrote → ℕ → Wrote
close_par p q to =
    cond q.answer.nil
    (wrote q.answer.end (p.answer.to - 1) false p.answer.levels (lowered q.out (onward to 1) p.answer.to))
    (wrote q.answer.end q.answer.to false (onward (max p.answer.levels q.answer.levels) 1) q.out)

unfoldable pub par_after : Walk → Wrote → ℕ → Wrote
par_after sub p to =
    cond p.answer.nil (sub p.answer.end p.out to) (close_par p (sub p.answer.end p.out p.answer.to) to)

unfoldable pub par_w : Walk → ℕ → List ℕ → ℕ → Wrote
par_w sub i out to = par_after sub (sub (onward i 1) (set out to (head_of Kind.par 0)) (onward to 1)) to

-- `n` parts, one after the other, in a node that is `levels` deep so far
unfoldable pub parts_w : Walk → ℕ → ℕ → ℕ → List ℕ → ℕ → Wrote
parts_w sub zero levels i out to = wrote i to false levels out
parts_w sub (suc n) levels i out to =
    parts_w sub n (max levels (onward (sub i out to).answer.levels 1)) (sub i out to).answer.end (sub i out to).out (sub i out to).answer.to

-- the words i..from stay, then come `n` parts
unfoldable pub kept_w : Walk → List ℕ → ℕ → ℕ → ℕ → ℕ → List ℕ → ℕ → Wrote
kept_w sub ws i from levels n out to = parts_w sub n levels from (pasted ws i from out to) (pasted_end ws i from to)

unfoldable pub condition_w : (ℕ → Measured) → Walk → List ℕ → ℕ → ℕ → List ℕ → ℕ → Wrote
condition_w ex sub ws i n out to = kept_w sub ws i (ex (onward i 1)).end (onward (ex (onward i 1)).levels 1) n out to

unfoldable pub other_w : (ℕ → Measured) → List ℕ → ℕ → List ℕ → ℕ → Wrote
other_w code ws i out to = wrote (code i).end (pasted_end ws i (code i).end to) false (code i).levels (pasted ws i (code i).end out to)

unfoldable pub c_hw : List ℕ → Old → ℕ → List ℕ → ℕ → Wrote
c_hw ws old i out to = wrote (onward i 1) (old_end ws old to) old.nil old.levels (old_out ws old out to)

unfoldable pub nil_w : ℕ → List ℕ → ℕ → Wrote
nil_w i out to = wrote (onward i 1) (onward to 1) true 1 (set out to 0)

unfoldable pub node_w : (ℕ → Measured) → (ℕ → Measured) → Walk → List ℕ → Old → ℕ → ℕ → List ℕ → ℕ → Wrote
node_w ex code sub ws old h i out to =
    get_or
    (nil_w i out to
    ∷ other_w code ws i out to
    ∷ seq_w sub i out to
    ∷ par_w sub i out to
    ∷ condition_w ex sub ws i 2 out to
    ∷ condition_w ex sub ws i 1 out to
    ∷ kept_w sub ws i (own_end ws i) 1 (count_of h * 2) out to
    ∷ other_w code ws i out to
    ∷ kept_w sub ws i (own_end ws i) 1 1 out to
    ∷ other_w code ws i out to
    ∷ other_w code ws i out to
    ∷ kept_w sub ws i (onward i 3) 1 1 out to
    ∷ other_w code ws i out to
    ∷ other_w code ws i out to
    ∷ other_w code ws i out to
    ∷ c_hw ws old i out to
    ∷ [])
    (kind_of h) (other_w code ws i out to)

unfoldable pub replace_w : ℕ → List ℕ → Old → ℕ → List ℕ → ℕ → Wrote
replace_w zero ws old i out to = wrote 0 0 false 0 out
replace_w (suc d) ws old i out to =
    cond (leb (length ws) i) (wrote 0 0 false 0 out)
    (node_w (expression_levels d ws) (code_levels (suc d) ws) (replace_w d ws old) ws old (get_or ws i 0) i out to)
