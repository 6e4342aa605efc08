use Rattle.std.proofs.Common.{rules, arith, ◌≡◌, ◌≢◌, ◌+◌, ◌<◌, List, [], ◌∷◌, ◌++◌, length, take, All, sym, ◌∙◌, ap, subst}
use Rattle.std.proofs.lemmas.Grind.{common_steps}
use Rattle.std.proofs.lemmas.List.{take_all, take_more}
use Rattle.std.proofs.lemmas.List.Elements.{All-append, All-cons, All-nil}
use Rattle.fax_config.specs.declared.config.RedialConfig.{RedialConfig}
use Rattle.fax_config.specs.Configurations.{IsAtNoRedial}
use Rattle.fax_config.proofs.unlike.is_local_of_redials.Goals as goal

pub loop-redial-preserved : goal.loop-redial-preserved
loop-redial-preserved c =
    let P : RedialConfig → Type 0 = λ redial. redial.called.local ≢ c.args.address in
    let redial = c.redial-item.result in
    let within : c.loop-redial.redial-index < length c.args.redials.now = first_of (search rules, omega arith) in
    let more : take (c.loop-redial.redial-index + 1) c.args.redials.now ≡ take c.loop-redial.redial-index c.args.redials.now ++ redial ∷ [] =
    take_more c.args.redials.now c.loop-redial.redial-index redial within ∙ ap (λ (one : RedialConfig). take c.loop-redial.redial-index c.args.redials.now ++ one ∷ []) (sym c.redial-item.is) in
    let here : P redial = search rules in
    subst (All P) (sym more) (All-append P (take c.loop-redial.redial-index c.args.redials.now) (redial ∷ []) c.loop-redial.invariant (All-cons P redial [] here (All-nil P)))
