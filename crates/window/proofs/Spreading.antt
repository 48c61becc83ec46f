-- The bytes of a window's words laid over an output word by word.
-- Assumes nothing.
use Prim.Native.Nat.{ℕ, zero, suc, ◌+◌, ◌-◌, ◌*◌, ◌/◌, ◌%◌, ◌<◌, ◌≤◌}
use native.Mathlib.Omega.{arith}
use mathlib.Core.Path.{◌≡◌, refl, sym, ap, ◌∙◌}
use mathlib.Core.List.{List, [], ◌∷◌, ◌++◌, append_assoc}
use lib.ListN.{length, get_or, take, drop, length-append}
use lib.Seq.{length-take-le, take_at, drop_at, drop-drop, take_all}
use borrow.Rule.Slice.PartMut.{put_mid}
use Rattle.window.specs.Bytes.{bytes_of}

-- laid over an output
abbrev pub over : List ℕ → List ℕ → List ℕ
over u o = u ++ drop (length u) o

pub bytes_length : (ws : List ℕ) → length (bytes_of ws) ≡ length ws * 2
unfolding bytes_of
bytes_length [] = refl
bytes_length (w ∷ ws) = omega (arith, bytes_length ws)

abbrev pair : ℕ → List ℕ
pair w = w / 256 ∷ w % 256 ∷ []

one_more : (i : ℕ) (ws : List ℕ) → i < length ws → bytes_of (take (suc i) ws) ≡ bytes_of (take i ws) ++ pair (get_or ws i 0)
unfolding bytes_of
one_more i [] h = absurd (omega arith)
one_more zero (w ∷ ws) h = refl
one_more (suc i) (w ∷ ws) h = ap (λ (bs : List ℕ). w / 256 ∷ w % 256 ∷ bs) (one_more i ws (omega arith))

pub spread_none : (out : List ℕ) → out ≡ over (bytes_of []) out
unfolding bytes_of
spread_none out = refl

pub spread_turn :
    (ws out out₀ mid : List ℕ) (i : ℕ) → out ≡ over (bytes_of (take i ws)) out₀ → i < length ws → get_or ws i 0 < 65536 →
    mid ≡ get_or ws i 0 / 256 % 256 ∷ get_or ws i 0 % 256 ∷ [] →
    put_mid (2 * i) (2 * i + 2 - 2 * i) out mid ≡ over (bytes_of (take (i + 1) ws)) out₀
spread_turn ws out out₀ mid i e h small m =
    let w : ℕ = get_or ws i 0 in
    let first : List ℕ = bytes_of (take i ws) in
    let long : length first ≡ 2 * i = omega (arith, bytes_length (take i ws), length-take-le i ws (omega arith)) in
    let two : 2 * i + 2 - 2 * i ≡ 2 = omega arith in
    let next : i + 1 ≡ suc i = omega arith in
    let high : w / 256 % 256 ≡ w / 256 = omega arith in
    let before : take (2 * i) out ≡ first = ap (take (2 * i)) e ∙ take_at first (drop (length first) out₀) (2 * i) long in
    let behind : drop 2 (drop (2 * i) out) ≡ drop (2 + length first) out₀ =
    ap (λ (l : List ℕ). drop 2 (drop (2 * i) l)) e
    ∙ ap (drop 2) (drop_at first (drop (length first) out₀) (2 * i) long)
    ∙ drop-drop 2 (length first) out₀ ∙ ap (λ (n : ℕ). drop n out₀) (let q : length first + 2 ≡ 2 + length first = omega arith in q) in
    let all : bytes_of (take (i + 1) ws) ≡ first ++ pair w = ap (λ (n : ℕ). bytes_of (take n ws)) next ∙ one_more i ws h in
    let size : length (first ++ pair w) ≡ 2 + length first = omega (arith, length-append first (pair w)) in
    ap (λ (k : ℕ). put_mid (2 * i) k out mid) two
    ∙ ap (λ (l : List ℕ). l ++ (mid ++ drop 2 (drop (2 * i) out))) before
    ∙ ap (λ (l : List ℕ). first ++ (mid ++ l)) behind
    ∙ ap (λ (l : List ℕ). first ++ (l ++ drop (2 + length first) out₀)) (m ∙ ap (λ (n : ℕ). n ∷ w % 256 ∷ []) high)
    ∙ sym (append_assoc first (pair w) (drop (2 + length first) out₀))
    ∙ ap (λ (n : ℕ). (first ++ pair w) ++ drop n out₀) (sym size)
    ∙ ap (λ (l : List ℕ). over l out₀) (sym all)

pub spread_end :
    (ws out out₀ : List ℕ) (i : ℕ) → length ws ≡ 1089 → length ws ≤ i → out ≡ over (bytes_of (take i ws)) out₀ → out ≡ bytes_of ws ++ drop 2178 out₀
spread_end ws out out₀ i n h e =
    let size : length (bytes_of ws) ≡ 2178 = omega (arith, bytes_length ws, n) in
    e ∙ ap (λ (l : List ℕ). over (bytes_of l) out₀) (take_all i ws h) ∙ ap (λ (k : ℕ). bytes_of ws ++ drop k out₀) size
