use Rattle.std.proofs.Common.{◌≡◌, ℕ, Bool, true, false, List, Option, IfErr, OnOk, ap, subst, rules, arith}
use Rattle.std.proofs.lemmas.Grind.{common_steps}
use Rattle.fax_command.specs.RowLines.{text_of_lines}
use Rattle.fax_capture.specs.declared.address.Role.{Role}
use Rattle.fax_capture.specs.declared.address.Role.TheVariants.{FromCaller, FromCalled, ToCaller, ToCalled, CallerInFragments, CalledInFragments, Unrelated}
use Rattle.fax_capture.specs.Addresses.{is_passed_over}
use Rattle.fax_capture.specs.Growing.{Stops}
use Rattle.fax_capture.specs.Rep.{Holds}
use Rattle.fax_capture.specs.Scripts.{ScriptSoFar, begins_with, heard_with, told_in, told_of}
use Rattle.fax_capture.proofs.script.Script.tell.Goals as goal

-- a datagram that is not passed over is heard, and then told in its call
told-heard : (asked : Option ℕ) (told : ScriptSoFar) (time : Option ℕ) (octets : List ℕ) (role : Role) (begins : Bool)
    → is_passed_over role ≡ false → begins ≡ begins_with told time octets role
    → told_in asked (heard_with told time octets role) time octets role begins ≡ told_of asked told time octets role
told-heard asked told time octets FromCaller begins told_on is = ap (λ (b : Bool). told_in asked (heard_with told time octets FromCaller) time octets FromCaller b) is
told-heard asked told time octets FromCalled begins told_on is = ap (λ (b : Bool). told_in asked (heard_with told time octets FromCalled) time octets FromCalled b) is
told-heard asked told time octets ToCaller begins told_on is = ap (λ (b : Bool). told_in asked (heard_with told time octets ToCaller) time octets ToCaller b) is
told-heard asked told time octets ToCalled begins told_on is = ap (λ (b : Bool). told_in asked (heard_with told time octets ToCalled) time octets ToCalled b) is
told-heard asked told time octets CallerInFragments begins told_on is = let wrong : true ≡ false = told_on in cc
told-heard asked told time octets CalledInFragments begins told_on is = let wrong : true ≡ false = told_on in cc
told-heard asked told time octets Unrelated begins told_on is = let wrong : true ≡ false = told_on in cc

pub returns-clause-ok : goal.returns-clause-ok
returns-clause-ok c = λ told holds.
    let told_on : is_passed_over c.args.role ≡ false = first_of (search rules, grind (arith, common_steps)) in
    subst (λ (next : ScriptSoFar). OnOk c.tell_in_call.result (Holds c.tell_in_call.new.self next))
    (told-heard c.args.asked told c.args.time c.args.octets.now c.args.role c.hear-begins.result told_on (c.hear-begins.ensures.begins told holds))
    (c.tell_in_call.ensures.ok (heard_with told c.args.time c.args.octets.now c.args.role) (c.hear-begins.ensures.holds told holds))

pub returns-clause-err : goal.returns-clause-err
returns-clause-err c = λ told holds.
    let told_on : is_passed_over c.args.role ≡ false = first_of (search rules, grind (arith, common_steps)) in
    subst (λ (next : ScriptSoFar). IfErr c.tell_in_call.result (λ e. Stops e (text_of_lines next.lines)))
    (told-heard c.args.asked told c.args.time c.args.octets.now c.args.role c.hear-begins.result told_on (c.hear-begins.ensures.begins told holds))
    (c.tell_in_call.ensures.err (heard_with told c.args.time c.args.octets.now c.args.role) (c.hear-begins.ensures.holds told holds))
