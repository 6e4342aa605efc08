use Rattle.std.proofs.Common.{◌≡◌, ◌++◌, map}
use Rattle.fax_dialogs.specs.Within.{field_text}
use Rattle.fax_sip.specs.declared.name.Name.TheVariants.{Route}
use Rattle.fax_sip.specs.Lists.{values_left}
use Rattle.fax_sip.specs.Messages.{message_text}
use Rattle.fax_requests.specs.Hanging.{route_lines}
use Rattle.fax_requests.proofs.hanging.routes_of.Given as goal

-- the lines so far and those that are left are all
abbrev pub invariant-loop-value : goal.invariant-loop-value
invariant-loop-value l = map field_text l.fields.items ++ map (λ value. (Route, value)) (values_left l.value-iterator) ≡ route_lines (message_text l.invite)
