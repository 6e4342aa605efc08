use Rattle.std.proofs.Common.{◌≡◌, inr, ℕ, Bool, false, List, Option, Result, Ok, Err, IfErr, OnOk, refl, sym, ◌∙◌, ap, subst}
use Rattle.std.proofs.lemmas.Result.{err_from_is_err_and}
use Rattle.fax_command.specs.RowLines.{text_of_lines}
use Rattle.fax_capture.specs.declared.pcap.found.Found.TheVariants.{Datagram}
use Rattle.fax_capture.specs.pcap.Datagrams.{DatagramValue}
use Rattle.fax_capture.specs.declared.options.CaptureOptions.{CaptureOptions}
use Rattle.fax_capture.specs.declared.address.Role.{Role}
use Rattle.fax_capture.specs.declared.counts.Counts.{Counts}
use Rattle.fax_capture.specs.declared.machines.Machines.{Machines}
use Rattle.fax_capture.specs.Addresses.{IsRole, called_of, caller_of, lacks}
use Rattle.fax_capture.specs.Growing.{Stops}
use Rattle.fax_capture.specs.Rep.{Holds, UntoldIn}
use Rattle.fax_capture.specs.Scripts.{ScriptSoFar, Tells, begun_with, found_with, told_of}
use Rattle.fax_capture.proofs.reading.tell_datagram.Goals as goal

-- a datagram of a role that lacks nothing is told
tells : (options : CaptureOptions) (told : ScriptSoFar) (time : Option ℕ) (datagram : DatagramValue) (octets : List ℕ) (counts : Counts) (machines : Machines) (role : Role) (whole lacking : Bool)
    → machines ≡ counts.machines → counts ≡ (found_with told datagram).counts → octets ≡ datagram.octets
    → IsRole (caller_of machines) (called_of machines) datagram role
    → whole ≡ datagram.is_whole → lacking ≡ lacks role whole → lacking ≡ false
    → Tells options told time datagram (told_of options.call (begun_with (found_with told datagram) datagram role) time octets role)
tells options told time datagram octets counts machines role whole lacking known held same is_role is_whole tested passes =
    let machines_are : machines ≡ (found_with told datagram).counts.machines = known ∙ ap (λ (k : Counts). k.machines) held in (
      role,
      subst (λ (m : Machines). IsRole (caller_of m) (called_of m) datagram role) machines_are is_role,
      ap (λ (b : Bool). lacks role b) (sym is_whole) ∙ sym tested ∙ passes,
      ap (λ (o : List ℕ). told_of options.call (begun_with (found_with told datagram) datagram role) time o role) same,
    )

on_ok : {A E : Type 0} → (r : Result A E) (P Q : Type 0) → (P → Q) → OnOk r P → OnOk r Q
on_ok (Ok x) P Q f p = f p
on_ok (Err e) P Q f p = tt

on_err : {A E : Type 0} → (r : Result A E) (P Q : E → Type 0) → ((e : E) → P e → Q e) → IfErr r P → IfErr r Q
on_err (Ok x) P Q f p = tt
on_err (Err e) P Q f p = f e p

pub returns-clause-ok : goal.returns-clause-ok
returns-clause-ok c = λ told holds.
    let options = c.args.options.now in
    let datagram = c.args.datagram.now in
    let role = c.role_of-role.result in
    let octets = c.octets.result.now in
    let found_holds = c.find.ensures.holds told holds in
    let begun = begun_with (found_with told datagram) datagram role in
    let one = tells options told c.args.time datagram octets c.find.new.self.counts c.machines.result role c.is_whole.result c.is_lacking.result
    c.machines.ensures found_holds.counts c.octets.ensures c.role_of-role.ensures c.is_whole.ensures c.is_lacking.ensures c.if-is_lacking.false in
    on_ok c.tell.result
    (Holds c.tell.new.self (told_of options.call begun c.args.time octets role))
    ((x : ScriptSoFar) × Tells options told c.args.time datagram x × Holds c.tell.new.self x)
    (λ h. (told_of options.call begun c.args.time octets role, one, h))
    (c.tell.ensures.ok begun (c.in_ok-begin.ensures.holds (found_with told datagram) found_holds))

pub returns-clause-err : goal.returns-clause-err
returns-clause-err c = λ told holds.
    let options = c.args.options.now in
    let datagram = c.args.datagram.now in
    let role = c.role_of-role.result in
    let octets = c.octets.result.now in
    let found_holds = c.find.ensures.holds told holds in
    let begun = begun_with (found_with told datagram) datagram role in
    let one = tells options told c.args.time datagram octets c.find.new.self.counts c.machines.result role c.is_whole.result c.is_lacking.result
    c.machines.ensures found_holds.counts c.octets.ensures c.role_of-role.ensures c.is_whole.ensures c.is_lacking.ensures c.if-is_lacking.false in
    on_err c.tell.result
    (λ e. Stops e (text_of_lines (told_of options.call begun c.args.time octets role).lines))
    (λ e. UntoldIn options told c.args.time (Datagram datagram) e)
    (λ e stops. inr (told_of options.call begun c.args.time octets role, one, stops))
    (c.tell.ensures.err begun (c.in_ok-begin.ensures.holds (found_with told datagram) found_holds))

-- memory was wanted before it was told
pub returns-in_err-begin-clause-err : goal.returns-in_err-begin-clause-err
returns-in_err-begin-clause-err c = λ told holds.
    let options = c.args.options.now in
    let datagram = c.args.datagram.now in
    let role = c.role_of-role.result in
    let found_holds = c.find.ensures.holds told holds in
    let one = tells options told c.args.time datagram datagram.octets c.find.new.self.counts c.machines.result role c.is_whole.result c.is_lacking.result
    c.machines.ensures found_holds.counts refl c.role_of-role.ensures c.is_whole.ensures c.is_lacking.ensures c.if-is_lacking.false in
    let p = err_from_is_err_and c.from_residual.result c.from_residual.ensures.1 in
    rw (p.1, p.2) (inr (told_of options.call (begun_with (found_with told datagram) datagram role) c.args.time datagram.octets role, one, tt))
