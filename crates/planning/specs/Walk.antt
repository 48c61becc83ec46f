-- The rewriting on positions, as the code goes; the proofs show that it is `rewritten` of the plan that the words are. No contract of a
-- call names it.
use Rattle.std.specs.Prelude.{ℕ, Option, Some, None, zero, suc, ◌+◌, ◌-◌, ◌*◌, ◌/◌, ◌%◌, Bool, true, false, not, ◌&&◌, ◌||◌, cond, List, leb, ltb, eqb, length, get_or, set}
use Rattle.sock.specs.Kind
use Rattle.sock.specs.Configuration.{Limits}
use Rattle.sock.specs.Calls.{check_readable, check_start}
use Rattle.sock.specs.Words.{kind_of, count_of, head_of}
use Rattle.sock.specs.Counts.{counts_of}
use Rattle.sock.specs.declared.Counts.{Counts}
use Rattle.layout.specs.Positions.{onward}
use Rattle.writers.specs.Writing.{pasted, pasted_end}
use Rattle.reading.specs.Walk.{expr_end}
use Rattle.planning.specs.Plan.{fixed_scope}
use Rattle.planning.specs.Translation.{own_ch}
use Rattle.planning.specs.Call.{beyond}
use Rattle.planning.specs.declared.spot.Spot.{Spot as Reached}
use Rattle.planning.specs.declared.rewrite.Keys.{Keys}
use Rattle.planning.specs.declared.rewrite.Keys.TheVariants.{Without, Faults, All}

-- ---- ends, 0 where there is none

unfoldable pub past : List ℕ → ℕ → ℕ → ℕ
past ws i n = cond (eqb i 0) 0 (cond (ltb (length ws) i) 0 (cond (ltb (length ws - i) n) 0 (i + n)))

unfoldable pub variables_past : List ℕ → ℕ → ℕ
variables_past ws i = cond (eqb i 0) 0 (cond (leb (length ws) i) 0 (past ws (i + 1) (get_or ws i 0 - 1)))

unfoldable pub lists_past : List ℕ → ℕ → ℕ → ℕ
lists_past ws zero i = i
lists_past ws (suc n) i = lists_past ws n (variables_past ws i)

unfoldable pub expression_past : ℕ → List ℕ → Bool → ℕ → ℕ
expression_past d ws none i = cond none i (cond (eqb i 0) 0 (expr_end d ws i))

unfoldable pub own_past : ℕ → List ℕ → Counts → ℕ → ℕ
own_past d ws c i = expression_past d ws (eqb c.expressions 0) (lists_past ws c.variables (past ws (i + 1) c.fixed))

-- ---- what is written

-- where the reading and the writing have come to, and whether cH was met; a lost spot is at 0
pub record Spot : Type 0 where
  pub at : ℕ
  pub to : ℕ
  pub caught : Bool

abbrev pub lost : Spot
lost = record { at = 0; to = 0; caught = false }

abbrev pub spot : ℕ → ℕ → Bool → Spot
spot at to caught = record { at = at; to = to; caught = caught }

-- the spot reached, and one scratch or both
pub record One : Type 0 where
  pub spot : Spot
  pub a : List ℕ

abbrev pub one : Spot → List ℕ → One
one s a = record { spot = s; a = a }

pub record Both : Type 0 where
  pub spot : Spot
  pub a : List ℕ
  pub b : List ℕ

abbrev pub both : Spot → List ℕ → List ℕ → Both
both s a b = record { spot = s; a = a; b = b }

-- the code's spot, lost where it has none; its keys, all below a number, or 0
abbrev pub spot_of : Reached → Spot
spot_of s = spot s.at s.to s.caught

abbrev pub spot_in : Option Reached → Spot
spot_in None = lost
spot_in (Some s) = spot_of s

abbrev pub one_in : Option Reached → List ℕ → One
one_in s a = one (spot_in s) a

abbrev pub both_in : Option Reached → List ℕ → List ℕ → Both
both_in s a b = both (spot_in s) a b

abbrev pub keys_of : Keys → ℕ
keys_of Without = 0
keys_of Faults = 64
keys_of All = 128

-- a place in a scratch, and the scratch
pub record Put : Type 0 where
  pub to : ℕ
  pub out : List ℕ

abbrev pub put_w : ℕ → Put → Put
put_w w p = record { to = onward p.to 1; out = set p.out p.to w }

unfoldable pub front_w : ℕ → ℕ → List ℕ → ℕ → Put
front_w h join out to =
    put_w (head_of Kind.inst 0) (put_w join (put_w 0 (put_w 0 (put_w (22528 + h / 32 % 64 * 32) (record { to = to; out = out })))))

unfoldable pub one_w : ℕ → List ℕ → ℕ → Put
one_w h out to = put_w (32768 + h / 32 % 64 * 512) (put_w 1 (put_w (head_of Kind.inst 0) (record { to = to; out = out })))

unfoldable pub copied_w : List ℕ → ℕ → ℕ → Bool → Spot → List ℕ → One
copied_w ws end k free s a =
    cond (eqb end 0) (one lost a)
    (one (spot end (pasted_end ws s.at end s.to) (s.caught || free && eqb k Kind.cH)) (pasted ws s.at end a s.to))

unfoldable pub key_w : List ℕ → ℕ → Spot → List ℕ → One
key_w ws keys s a =
    cond (eqb keys 0) (one s a)
    (cond (leb (length ws) s.at) (one lost a)
    (cond (not (eqb (get_or ws s.at 0 % 512) 0)) (one lost a)
    (cond (leb keys (get_or ws s.at 0 / 512)) (one lost a)
    (one (spot (s.at + 1) (onward s.to 1) s.caught) (set a s.to (get_or ws s.at 0))))))

unfoldable pub parts_of : ℕ → Counts → ℕ
parts_of h c = cond (eqb (kind_of h) Kind.choice) (count_of h * 2) c.processes

-- a walk takes: free, spot, the two scratches, where the second is spare
abbrev pub Walk : Type 0
Walk = Bool → Spot → List ℕ → List ℕ → ℕ → Both

unfoldable pub each_w : Walk → List ℕ → Bool → ℕ → ℕ → Spot → List ℕ → List ℕ → ℕ → Both
each_w sub ws free keys zero s a b spare = both s a b
each_w sub ws free keys (suc n) s a b spare =
    cond (eqb s.at 0) (both lost a b)
    (let k = key_w ws keys s a in
    let x = sub free k.spot k.a b spare in
    each_w sub ws free keys n x.spot x.a x.b spare)

unfoldable pub listed_w : Walk → List ℕ → Bool → Bool → ℕ → Spot → List ℕ → List ℕ → ℕ → Both
listed_w sub ws free none keys s a b spare =
    cond none (both s a b)
    (cond (eqb s.at 0) (both lost a b)
    (cond (leb (length ws) s.at) (both lost a b)
    (each_w sub ws free keys (get_or ws s.at 0) (spot (s.at + 1) (onward s.to 1) s.caught) (set a s.to (get_or ws s.at 0)) b spare)))

unfoldable pub node_w : ℕ → Walk → List ℕ → Bool → Spot → List ℕ → List ℕ → ℕ → Both
node_w d sub ws free s a b spare =
    let h = get_or ws s.at 0 in
    let c = counts_of (kind_of h) in
    let x = copied_w ws (own_past d ws c s.at) (kind_of h) free s a in
    let y = listed_w sub ws (free && not (own_ch (kind_of h))) (eqb c.lists 0) 128 x.spot x.a b spare in
    each_w sub ws free 0 (parts_of h c) y.spot y.a y.b spare

unfoldable pub body_w : Walk → ℕ → List ℕ → Bool → Spot → List ℕ → List ℕ → ℕ → Both
body_w sub join ws free s a b spare =
    cond (eqb s.at 0) (both lost a b)
    (cond (leb (length ws) s.at) (both lost a b)
    (cond (eqb (get_or ws s.at 0) 0) (both (spot (s.at + 1) s.to s.caught) a b)
    (sub free (spot s.at (onward s.to 1) s.caught) (set a s.to join) b spare)))

-- what is behind the body, once body and compensation process are written
unfoldable pub close_w : ℕ → ℕ → ℕ → Both → Both
close_w h spare end p =
    cond (eqb p.spot.at 0) (both lost p.a p.b)
    (let t = one_w h p.a p.spot.to in
    both (spot p.spot.at (pasted_end p.b spare end t.to) p.spot.caught) (pasted p.b spare end t.out t.to) p.b)

unfoldable pub rest_w : Walk → ℕ → List ℕ → Bool → ℕ → Spot → List ℕ → List ℕ → ℕ → Both
rest_w sub join ws free h s a b spare =
    let c = sub true (spot s.at spare s.caught) b a s.to in
    close_w h spare c.spot.to (body_w sub join ws free (spot c.spot.at s.to c.spot.caught) c.b c.a c.spot.to)

-- from the fault list on
unfoldable pub then_w : Walk → ℕ → List ℕ → Bool → ℕ → Both → ℕ → Both
then_w sub join ws free h x spare =
    cond (eqb x.spot.at 0) (both lost x.a x.b)
    (let t = one_w h (set x.a x.spot.to join) (onward x.spot.to 1) in
    let y = sub true (spot x.spot.at t.to x.spot.caught) t.out x.b spare in
    rest_w sub join ws free h y.spot y.a y.b spare)

unfoldable pub fixed_w : Walk → ℕ → List ℕ → Bool → Spot → List ℕ → List ℕ → ℕ → Both
fixed_w sub join ws free s a b spare =
    let h = get_or ws s.at 0 in
    let f = front_w h join a s.to in
    cond (eqb (h % 32) 0) (then_w sub join ws free h (listed_w sub ws true false 64 (spot (s.at + 1) f.to s.caught) f.out b spare) spare) (both lost a b)

unfoldable pub process_w : ℕ → ℕ → List ℕ → Walk
process_w zero join ws free s a b spare = both lost a b
process_w (suc d) join ws free s a b spare =
    cond (eqb s.at 0) (both lost a b)
    (cond (leb (length ws) s.at) (both lost a b)
    (cond (eqb (kind_of (get_or ws s.at 0)) fixed_scope) (fixed_w (process_w d join ws) join ws free s a b spare) (node_w d (process_w d join ws) ws free s a b spare)))

unfoldable pub engine_w : ℕ → List ℕ → Spot → List ℕ → List ℕ → Both
engine_w join ws s a b =
    let e = past ws s.at 64 in
    cond (eqb e 0) (both lost a b) (process_w 64 join ws false (spot e (pasted_end ws s.at e s.to) s.caught) (pasted ws s.at e a s.to) b 0)

unfoldable pub engines_w : ℕ → List ℕ → ℕ → Spot → List ℕ → List ℕ → Both
engines_w join ws zero s a b = both s a b
engines_w join ws (suc n) s a b =
    cond (eqb s.at 0) (both lost a b)
    (let x = engine_w join ws s a b in
    engines_w join ws n x.spot x.a x.b)

unfoldable pub rewrite_w : ℕ → List ℕ → List ℕ → List ℕ → Both
rewrite_w join ws a b =
    cond (ltb (length ws) 2) (both lost a b)
    (let x = engines_w join ws (get_or ws 0 0) (spot 2 (pasted_end ws 0 2 0) false) (pasted ws 0 2 a 0) b in
    both (cond (eqb x.spot.at (length ws)) x.spot lost) x.a x.b)

-- ---- the verdicts on what is written

-- on a stand-in: 1, 14, 11, or 0
unfoldable pub judged : List ℕ → Bool → ℕ
judged ws caught = cond (eqb (check_readable beyond ws) 0) (cond caught 14 (check_start beyond ws)) (check_readable beyond ws)

abbrev pub no_deeper : Limits
no_deeper = record { deepest = 64; longest = 65535 }

-- on a translated start: 8, 9, 10, or 0
unfoldable pub measured : List ℕ → ℕ → ℕ
measured ws room =
    cond (eqb (check_start beyond ws) 0) (cond (eqb (check_readable no_deeper ws) 0) (cond (ltb 8192 (length ws)) 9 (cond (ltb room (length ws)) 10 0)) 8) (check_start beyond ws)
