-- Smaller figures inside larger ones: what the smaller read the larger read, and of that the smaller read what fits them; so too a start.
-- Assumes nothing.
use Prim.Native.Nat.{ℕ, ◌≤◌}
use native.Mathlib.Omega.{arith}
use mathlib.Core.Path.{◌≡◌, refl, sym, ap, subst, ◌∙◌}
use mathlib.Core.Bool.{Bool, true, false}
use mathlib.Core.Option.{Option, none, some}
use mathlib.Core.List.{List}
use lib.Dec.{T, leb, leb→le, le→leb}
use lib.ListN.{length}
use Rattle.sock.specs.Configuration.{Limits, Config, encode, engines_depth, guarded, also, read_config, fresh}
use Rattle.sock.specs.Calls.{passed, start, check_start, ◌>>=◌, ◌>>◌, ◌!◌, ◌unless◌}
use Rattle.sock.specs.Cabinets.{◌inside◌, fits, ReadInside, StartInside}
use Rattle.sock.proofs.Logic.{and_left, and_right, and_both, test_true, true_test}
use Rattle.sock.proofs.Fits.{Readable}
use Rattle.sock.proofs.Configuration.{config_found, config_finds}
use Rattle.sock.proofs.Journal.{none_some, some_same}
use Rattle.sock.proofs.Requests.{started}

-- ---- what fits

pub fits_within : (s : Limits) (c : Config) → T (fits s c) → (engines_depth c.engines ≤ s.deepest) × (length (encode c) ≤ s.longest)
unfolding fits
fits_within s c t =
    let d : Bool = leb (engines_depth c.engines) s.deepest in
    let n : Bool = leb (length (encode c)) s.longest in
    (leb→le _ _ (and_left d n t), leb→le _ _ (and_right d n t))

pub within_fits : (s : Limits) (c : Config) → engines_depth c.engines ≤ s.deepest → length (encode c) ≤ s.longest → T (fits s c)
unfolding fits
within_fits s c d n = and_both (leb (engines_depth c.engines) s.deepest) (leb (length (encode c)) s.longest) (le→leb _ _ d) (le→leb _ _ n)

pub fits_larger : (s l : Limits) → s inside l → (c : Config) → T (fits s c) → T (fits l c)
fits_larger s l h c t = let (d, n) = fits_within s c t in within_fits l c (omega (arith, h.0)) (omega (arith, h.1))

-- ---- reading

pub read_fits : (s : Limits) (ws : List ℕ) {c : Config} → read_config s ws ≡ some c → T (fits s c)
read_fits s ws {c} e = let r : Readable s c = (config_found s ws c e).1 in within_fits s c r.shallow r.short

-- whatever else reads it
pub fits_read : (s l : Limits) (ws : List ℕ) {c : Config} → read_config l ws ≡ some c → T (fits s c) → read_config s ws ≡ some c
fits_read s l ws {c} e t =
    let (same, r) = config_found l ws c e in
    let (d, n) = fits_within s c t in
    subst (λ us. read_config s us ≡ some c) same (config_finds s c (record { fitting = r.fitting; shallow = d; short = n }))

pub read_larger : (s l : Limits) → s inside l → (ws : List ℕ) {c : Config} → read_config s ws ≡ some c → read_config l ws ≡ some c
read_larger s l h ws {c} e = fits_read l s ws e (fits_larger s l h c (read_fits s ws e))

pub read_inside : ReadInside
unfolding also guarded
read_inside s l h ws = by (read_config l ws) refl
  where
    none_read : (o : Option Config) → read_config s ws ≡ o → read_config l ws ≡ none → o ≡ none
    none_read none e p = refl
    none_read (some c) e p = absurd (none_some (sym p ∙ read_larger s l h ws e))

    unfit : {c : Config} (o : Option Config) → read_config s ws ≡ o → read_config l ws ≡ some c → fits s c ≡ false → o ≡ none
    unfit none e p f = refl
    unfit (some d) e p f =
        let q : d ≡ _ = some_same (sym (read_larger s l h ws e) ∙ p) in
        absurd (subst T (ap (fits s) q ∙ f) (read_fits s ws e))

    fitting : {c : Config} (b : Bool) → fits s c ≡ b → read_config l ws ≡ some c → read_config s ws ≡ guarded b (some c)
    fitting true f p = fits_read s l ws p (true_test f)
    fitting false f p = unfit (read_config s ws) refl p f

    by : (o : Option Config) → read_config l ws ≡ o → read_config s ws ≡ also o λ c. guarded (fits s c) (some c)
    by none p = none_read (read_config s ws) refl p
    by (some c) p = fitting (fits s c) refl p

-- ---- a start

pub start_inside : StartInside
unfolding check_start start passed ◌>>=◌ ◌>>◌ ◌!◌ ◌unless◌
start_inside s l h ws e =
    let (c, r, f) = started s ws e in
    rw (read_larger s l h ws r, test_true (fresh c) f)
