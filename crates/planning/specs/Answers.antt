-- What the code answers, in the terms of the definitions; and a refusal's words.
use Rattle.std.specs.Prelude.{ℕ, List, Result, Ok, Err, codes}
use Rattle.sock.specs.Journal.{Taken}
use Rattle.layout.specs.Refusals as layout
use Rattle.planning.specs.Call as call
use Rattle.planning.specs.declared.refusal.Refusal.{Refusal}
use Rattle.planning.specs.declared.refusal.Refusal.TheVariants.{Plain, FixedCh}

abbrev pub refusal_of : Refusal → call.Refusal
refusal_of (Plain r) = call.plain (layout.refusal_of r)
refusal_of FixedCh = call.fixed_ch

abbrev pub refusal_number : Refusal → ℕ
refusal_number r = call.number (refusal_of r)

-- the number of what was refused, or 0
abbrev pub number_in : {A : Type 0} → Result A Refusal → ℕ
number_in (Ok a) = 0
number_in (Err r) = refusal_number r

-- a refusal has no length
abbrev pub translated_in : Result ℕ Refusal → Taken
translated_in (Ok length) = record { number = 0; length = length }
translated_in (Err r) = record { number = refusal_number r; length = 0 }

-- what a refusal prints: the words of documents 01 and 02
abbrev pub text_of : Refusal → List ℕ
text_of (Plain r) = layout.text_of r
text_of FixedCh = codes "cH in a fixed scope"
