-- What a rule makes of an engine's words, as the code goes.
use Rattle.std.specs.Prelude.{ℕ, Bool, cond, List, eqb, set}
use Rattle.layout.specs.Positions.{onward}
use Rattle.finding.specs.declared.find.Site.{Site}
use Rattle.std.specs.Prelude as code
use Rattle.std.specs.Prelude.{Ok, Err}
use Rattle.layout.specs.declared.refusal.Refusal.{Refusal}
use Rattle.layout.specs.Refusals.{refusal_number}
use Rattle.rules.specs.declared.edit.Edit as code_edit
use Rattle.rules.specs.Rewriting.{Rewriting}
use Rattle.rules.specs.Storing.{Store, unchanged, storing}
use Rattle.rules.specs.Offering.{Placed, placed}

-- a refusal's number, or 0; the words list..past become the first `listed` fresh words, from..upto the fresh words listed..fresh, and gap..end go
pub record Edit : Type 0 where
  pub number : ℕ
  pub list : ℕ
  pub past : ℕ
  pub listed : ℕ
  pub from : ℕ
  pub upto : ℕ
  pub fresh : ℕ
  pub gap : ℕ
  pub end : ℕ
  pub store : Store

-- an edit, and the fresh words afterwards
pub record Edited : Type 0 where
  pub edit : Edit
  pub fresh : List ℕ

abbrev pub edited : Edit → List ℕ → Edited
edited p fresh = record { edit = p; fresh = fresh }

abbrev pub refused_edit : ℕ → Edit
refused_edit n = record { number = n; list = 0; past = 0; listed = 0; from = 0; upto = 0; fresh = 0; gap = 0; end = 0; store = unchanged }

-- the code's edit, and its refusal, as such
abbrev pub made : code_edit.Edit → Edit
made p =
    record {
      number = 0;
      list = p.list;
      past = p.past;
      listed = p.listed;
      from = p.from;
      upto = p.upto;
      fresh = p.fresh;
      gap = p.gap;
      end = p.end;
      store = storing p.store;
    }

abbrev pub edit_of : code.Result code_edit.Edit Refusal → Edit
edit_of (Ok p) = made p
edit_of (Err r) = refused_edit (refusal_number r)

unfoldable pub hollow_w : Bool → ℕ → List ℕ → Placed
hollow_w hollow f fresh = cond hollow (placed (onward f 1) (set fresh f 0)) (placed f fresh)

unfoldable pub nil_w : Site → ℕ → ℕ → ℕ → Store → List ℕ → Edited
nil_w s l m f store fresh =
    let w = hollow_w s.hollow f fresh in
    edited
    (record { number = 0; list = l; past = m; listed = f; from = s.from; upto = s.upto; fresh = w.to; gap = s.gap; end = s.end; store = store })
    w.fresh

-- the words from..upto become the first fresh ones
abbrev pub replaced_w : ℕ → ℕ → ℕ → ℕ → Edit
replaced_w start from upto fresh =
    record { number = 0; list = start; past = start; listed = 0; from = from; upto = upto; fresh = fresh; gap = upto; end = upto; store = unchanged }

unfoldable pub plain_w : Site → ℕ → Rewriting → List ℕ → Edited
plain_w s start t fresh =
    cond (eqb t.number 0)
    (cond t.nil (nil_w s start start 0 t.store fresh)
    (edited
    (record {
      number = t.number;
      list = start;
      past = start;
      listed = 0;
      from = s.at;
      upto = onward s.at t.from;
      fresh = t.fresh;
      gap = onward s.at t.upto;
      end = onward s.at t.end;
      store = t.store;
    })
    fresh))
    (edited (refused_edit t.number) fresh)
