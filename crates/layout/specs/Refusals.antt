-- The refusals as the definitions name them, and so their numbers; and their words.
use Rattle.std.specs.Prelude.{ℕ, List, Result, Ok, Err, codes}
use Rattle.sock.specs.Calls.{Refusal as Defined, number, unreadable, nobody_there, no_move, no_partner, no_fit, installing, serials_spent, deep, long, short, not_fresh, unknown_serial, not_decimal, unmatched, journal_short, index_short, house_full, still_at_work}
use Rattle.layout.specs.declared.refusal.Refusal.{Refusal}
use Rattle.layout.specs.declared.refusal.Refusal.TheVariants.{Unreadable, NoProcess, NoMove, NoPartner, NoFit, Pending, SerialsSpent, TooDeep, TooLong, OutputShort, NotFresh, NoSerial, NotDecimal, Unmatched, JournalShort, NoIndex, Full, AtWork}

abbrev pub refusal_of : Refusal → Defined
refusal_of Unreadable = unreadable
refusal_of NoProcess = nobody_there
refusal_of NoMove = no_move
refusal_of NoPartner = no_partner
refusal_of NoFit = no_fit
refusal_of Pending = installing
refusal_of SerialsSpent = serials_spent
refusal_of TooDeep = deep
refusal_of TooLong = long
refusal_of OutputShort = short
refusal_of NotFresh = not_fresh
refusal_of NoSerial = unknown_serial
refusal_of NotDecimal = not_decimal
refusal_of Unmatched = unmatched
refusal_of JournalShort = journal_short
refusal_of NoIndex = index_short
refusal_of Full = house_full
refusal_of AtWork = still_at_work

abbrev pub refusal_number : Refusal → ℕ
refusal_number r = number (refusal_of r)

-- the number of what was refused, or 0
abbrev pub number_in : {A : Type 0} → Result A Refusal → ℕ
number_in (Ok a) = 0
number_in (Err r) = refusal_number r

-- what a refusal prints: the words of documents 01 and 02
abbrev pub text_of : Refusal → List ℕ
text_of Unreadable = codes "unreadable"
text_of NoProcess = codes "nobody there"
text_of NoMove = codes "no move"
text_of NoPartner = codes "no partner"
text_of NoFit = codes "no fit"
text_of Pending = codes "installing"
text_of SerialsSpent = codes "serials spent"
text_of TooDeep = codes "deep"
text_of TooLong = codes "long"
text_of OutputShort = codes "short paper"
text_of NotFresh = codes "not fresh"
text_of NoSerial = codes "unknown serial"
text_of NotDecimal = codes "not decimal"
text_of Unmatched = codes "journal doesn't match"
text_of JournalShort = codes "journal short"
text_of NoIndex = codes "index short"
text_of Full = codes "house full"
text_of AtWork = codes "still at work"
