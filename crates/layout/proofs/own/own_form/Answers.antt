-- `own_form` of `layout::own` meets its contract: each arm is what the fixed table packs to.
use Rattle.std.proofs.Common.{◌≡◌, refl, sym, arith}
use Rattle.sock.specs.Kind.{rows, row_of}
use Rattle.sock.specs.Counts.{word_count, list_count, counted, counts_of}
use Rattle.layout.specs.declared.kind.Kind.{Kind}
use Rattle.layout.specs.declared.kind.Kind.TheVariants as kinds
use Rattle.layout.specs.Kinds.{number_of}
use Rattle.layout.specs.Own.{own_form}
use Rattle.layout.proofs.own.own_form.Goals as goal

-- the other kinds have no own words but the head
plain :
    (k : Kind) → (k ≡ kinds.OneWay → ⊥) → (k ≡ kinds.Request → ⊥) → (k ≡ kinds.Notify → ⊥) →
    (k ≡ kinds.Solicit → ⊥) → (k ≡ kinds.Scope → ⊥) → (k ≡ kinds.Executor → ⊥) → (k ≡ kinds.Waiter → ⊥) → (k ≡ kinds.Notice → ⊥) → own_form (number_of k) ≡ 0
unfolding own_form counts_of counted row_of rows word_count list_count
plain kinds.Nil _ _ _ _ _ _ _ _ = refl
plain kinds.Assign _ _ _ _ _ _ _ _ = refl
plain kinds.Seq _ _ _ _ _ _ _ _ = refl
plain kinds.Par _ _ _ _ _ _ _ _ = refl
plain kinds.If _ _ _ _ _ _ _ _ = refl
plain kinds.While _ _ _ _ _ _ _ _ = refl
plain kinds.Choice _ _ _ _ _ _ _ _ = refl
plain kinds.OneWay h _ _ _ _ _ _ _ = absurd (h refl)
plain kinds.Request _ h _ _ _ _ _ _ = absurd (h refl)
plain kinds.Notify _ _ h _ _ _ _ _ = absurd (h refl)
plain kinds.Solicit _ _ _ h _ _ _ _ = absurd (h refl)
plain kinds.Scope _ _ _ _ h _ _ _ = absurd (h refl)
plain kinds.Inst _ _ _ _ _ _ _ _ = refl
plain kinds.Throw _ _ _ _ _ _ _ _ = refl
plain kinds.Comp _ _ _ _ _ _ _ _ = refl
plain kinds.Ch _ _ _ _ _ _ _ _ = refl
plain kinds.Executor _ _ _ _ _ h _ _ = absurd (h refl)
plain kinds.Waiter _ _ _ _ _ _ h _ = absurd (h refl)
plain kinds.Notice _ _ _ _ _ _ _ h = absurd (h refl)
plain kinds.Unused _ _ _ _ _ _ _ _ = refl

pub returns-in_default : goal.returns-in_default
returns-in_default c =
    let d = c.in_default in
    let e = plain c.args.kind d.not-OneWay d.not-Request d.not-Notify d.not-Solicit d.not-Scope d.not-Executor d.not-Waiter d.not-Notice in
    (sym e, omega arith)
