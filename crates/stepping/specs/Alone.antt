-- A step of one engine alone, as the code goes.
use Rattle.std.specs.Prelude.{ℕ, ◌-◌, Option, Some, None, cond, List, ltb, eqb, length, replicate}
use Rattle.sock.specs.Kind
use Rattle.evaluating.specs.declared.evaluate.Valued.{Valued}
use Rattle.evaluating.specs.Evaluating.{evaluated}
use Rattle.finding.specs.declared.find.Site.{Site}
use Rattle.rules.specs.Rewriting.{Rewritten, rewritten, refused, assign_w, branch_w, repeat_w}
use Rattle.rules.specs.Editing.{Edited, plain_w}
use Rattle.scopes.specs.Compensating.{compensated_w}
use Rattle.scopes.specs.Ending.{ended_w}
use Rattle.scopes.specs.Installing.{installed_w}
use Rattle.scopes.specs.Throwing.{thrown_w}
use Rattle.layout.specs.declared.limit.Limits.{Limits}
use Rattle.rules.specs.declared.edit.Side.{Side}
use Rattle.stepping.specs.Answering.{Answered, one_w}
use Rattle.stepping.specs.Exchanging.{lent}

-- assign, if or while, with the value that its expression has
unfoldable pub settled_w : Limits → List ℕ → Valued → ℕ → ℕ → ℕ → List ℕ → Rewritten
settled_w limits part e level kind bound fresh =
    cond (eqb kind Kind.assign) (rewritten (assign_w part e) fresh)
    (cond (eqb kind Kind.if) (rewritten (branch_w part e) fresh) (repeat_w limits level bound part e fresh))

-- 13 where it has none
abbrev pub when_valued : Option ℕ → (ℕ → Rewritten) → List ℕ → Rewritten
when_valued None settle fresh = rewritten (refused 13) fresh
when_valued (Some v) settle fresh = settle v

unfoldable pub rewritten_w : Limits → List ℕ → List ℕ → ℕ → ℕ → ℕ → List ℕ → Rewritten
rewritten_w limits part vs level kind bound fresh =
    let e = evaluated 64 part vs 1 in
    when_valued e.value (λ v. settled_w limits part (record { end = e.end; value = v }) level kind bound fresh) fresh

unfoldable pub valued_w : Limits → List ℕ → ℕ → Site → ℕ → ℕ → List ℕ → Rewritten
valued_w limits ws start s kind bound fresh =
    cond (ltb start 64) (rewritten (refused 1) fresh)
    (cond (ltb (length ws) start) (rewritten (refused 1) fresh)
    (cond (ltb (length ws) s.at) (rewritten (refused 1) fresh)
    (rewritten_w limits (lent s.at (length ws) ws) (lent (start - 64) start ws) s.level kind bound fresh)))

unfoldable pub scoped_w : Limits → List ℕ → List ℕ → ℕ → Site → ℕ → ℕ → List ℕ → Edited
scoped_w limits ws notes start s kind bound fresh =
    cond (eqb kind Kind.scope) (ended_w ws notes start s fresh)
    (cond (eqb kind Kind.inst) (installed_w limits ws notes start s fresh)
    (cond (eqb kind Kind.throw) (thrown_w ws notes start s fresh) (compensated_w limits bound ws notes start s fresh)))

unfoldable pub rule_w : Limits → List ℕ → List ℕ → Side → ℕ → ℕ → List ℕ → Edited
rule_w limits ws notes m kind bound fresh =
    let t = valued_w limits ws m.start m.site kind bound fresh in
    cond (ltb Kind.choice kind) (scoped_w limits ws notes m.start m.site kind bound fresh) (plain_w m.site m.start t.rewriting t.fresh)

unfoldable pub lone_w : Limits → List ℕ → List ℕ → Side → ℕ → ℕ → List ℕ → List ℕ → Answered
lone_w limits ws notes m kind bound fresh out =
    let p = rule_w limits ws notes m kind bound fresh in
    one_w limits ws m.start m.end p.edit kind p.fresh out

-- scratch for all, and for short configurations
abbrev pub large : List ℕ
large = replicate 16384 0

abbrev pub small : List ℕ
small = replicate 1024 0

-- a configuration is short
abbrev pub short : ℕ
short = 512

-- so many fresh words find room in the short scratch, with 130 to spare
abbrev pub surely : ℕ
surely = 800

-- again with the long scratch, if there may have been too little room
unfoldable pub short_w : Limits → List ℕ → List ℕ → Side → ℕ → ℕ → List ℕ → List ℕ → Answered
short_w limits ws notes m kind bound fresh out =
    cond (ltb surely (rule_w limits ws notes m kind bound fresh).edit.fresh) (lone_w limits ws notes m kind bound large out)
    (lone_w limits ws notes m kind bound fresh out)

unfoldable pub alone_w : Limits → List ℕ → List ℕ → Side → ℕ → ℕ → List ℕ → Answered
alone_w limits ws notes m kind bound out =
    cond (ltb short (length ws)) (lone_w limits ws notes m kind bound large out) (short_w limits ws notes m kind bound small out)
