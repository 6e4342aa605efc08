use Rattle.std.proofs.Common.{rules, arith, ◌≡◌, ◌≢◌, ◌+◌, ◌<◌, List, [], ◌∷◌, ◌++◌, length, take, All, sym, ◌∙◌, ap, subst}
use Rattle.std.proofs.lemmas.Grind.{common_steps}
use Rattle.std.proofs.lemmas.List.{take_all, take_more}
use Rattle.std.proofs.lemmas.List.Elements.{All-append, All-cons, All-nil}
use Rattle.fax_config.specs.declared.config.LineConfig.{LineConfig}
use Rattle.fax_config.specs.Configurations.{IsAtNoLegOfLines}
use Rattle.fax_config.proofs.unlike.is_local_of_lines.Goals as goal

pub loop-line-preserved : goal.loop-line-preserved
loop-line-preserved c =
    let P : LineConfig → Type 0 = λ line. (line.calling.local ≢ c.args.address) × (line.called.local ≢ c.args.address) in
    let line = c.line-item.result in
    let within : c.loop-line.line-index < length c.args.lines.now = first_of (search rules, omega arith) in
    let more : take (c.loop-line.line-index + 1) c.args.lines.now ≡ take c.loop-line.line-index c.args.lines.now ++ line ∷ [] =
    take_more c.args.lines.now c.loop-line.line-index line within ∙ ap (λ (one : LineConfig). take c.loop-line.line-index c.args.lines.now ++ one ∷ []) (sym c.line-item.is) in
    let here : P line = search rules in
    subst (All P) (sym more) (All-append P (take c.loop-line.line-index c.args.lines.now) (line ∷ []) c.loop-line.invariant (All-cons P line [] here (All-nil P)))
