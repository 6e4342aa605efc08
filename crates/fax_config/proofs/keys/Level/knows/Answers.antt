use Rattle.std.proofs.Common.{◌↔◌, IsTrue, Contains, sym, subst}
use Rattle.fax_config.specs.declared.keys.Level.{Level}
use Rattle.fax_config.specs.declared.keys.Level.TheVariants as levels
use Rattle.fax_config.specs.Members.{known_keys}
use Rattle.fax_config.proofs.KeyLemmas.{known_by}
use Rattle.fax_config.proofs.keys.Level.knows.Goals as goal

pub returns-in-Top : goal.returns-in-Top
returns-in-Top c =
    subst (λ (level : Level). IsTrue c.contains.result ↔ Contains (known_keys level) c.args.key.now) (sym c.in-Top.is)
    (known_by (known_keys levels.Top) c.args.key.now c.contains.result c.contains.ensures.value)

pub returns-in-Line : goal.returns-in-Line
returns-in-Line c =
    subst (λ (level : Level). IsTrue c.contains-in-Line.result ↔ Contains (known_keys level) c.args.key.now) (sym c.in-Line.is)
    (known_by (known_keys levels.Line) c.args.key.now c.contains-in-Line.result c.contains-in-Line.ensures.value)

pub returns-in-Sip : goal.returns-in-Sip
returns-in-Sip c =
    subst (λ (level : Level). IsTrue c.contains-in-Sip.result ↔ Contains (known_keys level) c.args.key.now) (sym c.in-Sip.is)
    (known_by (known_keys levels.Sip) c.args.key.now c.contains-in-Sip.result c.contains-in-Sip.ensures.value)

pub returns-in-Trunk : goal.returns-in-Trunk
returns-in-Trunk c =
    subst (λ (level : Level). IsTrue c.contains-in-Trunk.result ↔ Contains (known_keys level) c.args.key.now) (sym c.in-Trunk.is)
    (known_by (known_keys levels.Trunk) c.args.key.now c.contains-in-Trunk.result c.contains-in-Trunk.ensures.value)

pub returns-in-Route : goal.returns-in-Route
returns-in-Route c =
    subst (λ (level : Level). IsTrue c.contains-in-Route.result ↔ Contains (known_keys level) c.args.key.now) (sym c.in-Route.is)
    (known_by (known_keys levels.Route) c.args.key.now c.contains-in-Route.result c.contains-in-Route.ensures.value)
