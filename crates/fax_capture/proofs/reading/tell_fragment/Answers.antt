use Rattle.std.proofs.Common.{◌≡◌, ℕ, List, Option, Some, IfErr, OnOk, sym, ◌∙◌, ap, subst}
use Rattle.fax_command.specs.RowLines.{text_of_lines}
use Rattle.fax_capture.specs.declared.address.Role.{Role}
use Rattle.fax_capture.specs.Counts.{counts_of_whole}
use Rattle.fax_capture.specs.Fragments.{WholeValue, put_together}
use Rattle.fax_capture.specs.Growing.{Stops}
use Rattle.fax_capture.specs.Rep.{Holds}
use Rattle.fax_capture.specs.Scripts.{ScriptSoFar, told_of, told_whole}
use Rattle.fax_capture.proofs.reading.tell_fragment.Goals as goal

-- what was put together is told as a datagram of its octets and of its machine
whole_told : (asked : Option ℕ) (told : ScriptSoFar) (time : Option ℕ) (put : Option WholeValue) (whole : WholeValue) (octets : List ℕ) (role : Role)
    → put ≡ Some whole → octets ≡ whole.octets → role ≡ whole.role
    → told_of asked (record told { counts = counts_of_whole told.counts }) time octets role ≡ told_whole asked told time put
whole_told asked told time put whole octets role is same_octets same_role =
    ap (λ (o : List ℕ). told_of asked (record told { counts = counts_of_whole told.counts }) time o role) same_octets
    ∙ ap (λ (r : Role). told_of asked (record told { counts = counts_of_whole told.counts }) time whole.octets r) same_role
    ∙ ap (λ (p : Option WholeValue). told_whole asked told time p) (sym is)

pub returns-clause-ok : goal.returns-clause-ok
returns-clause-ok c = λ told holds.
    let next : ScriptSoFar = record told { under_way = (put_together told.under_way c.args.fragment.now).0 } in
    let octets_are = ap (λ (w : WholeValue). w.octets) c.whole.view_is in
    let role_is = ap (λ (w : WholeValue). w.role) c.whole.view_is in
    let looked_at = c.as_slice.ensures.value in
    let same_octets : c.as_slice.result.now ≡ c.in-Some.whole.octets = cc in
    let same_role : c.whole.inside.role ≡ c.in-Some.whole.role = cc in
    subst (λ (t : ScriptSoFar). OnOk c.tell.result (Holds c.tell.new.self t))
    (whole_told c.args.options.now.call next c.args.time (put_together told.under_way c.args.fragment.now).1 c.in-Some.whole c.as_slice.result.now c.whole.inside.role
    (sym (c.in_ok-whole.ensures.whole told holds) ∙ c.in-Some.is) same_octets same_role)
    (c.tell.ensures.ok (record next { counts = counts_of_whole next.counts }) (c.count_whole.ensures.holds next (c.in_ok-whole.ensures.holds told holds)))

pub returns-clause-err : goal.returns-clause-err
returns-clause-err c = λ told holds.
    let next : ScriptSoFar = record told { under_way = (put_together told.under_way c.args.fragment.now).0 } in
    let octets_are = ap (λ (w : WholeValue). w.octets) c.whole.view_is in
    let role_is = ap (λ (w : WholeValue). w.role) c.whole.view_is in
    let looked_at = c.as_slice.ensures.value in
    let same_octets : c.as_slice.result.now ≡ c.in-Some.whole.octets = cc in
    let same_role : c.whole.inside.role ≡ c.in-Some.whole.role = cc in
    subst (λ (t : ScriptSoFar). IfErr c.tell.result (λ e. Stops e (text_of_lines t.lines)))
    (whole_told c.args.options.now.call next c.args.time (put_together told.under_way c.args.fragment.now).1 c.in-Some.whole c.as_slice.result.now c.whole.inside.role
    (sym (c.in_ok-whole.ensures.whole told holds) ∙ c.in-Some.is) same_octets same_role)
    (c.tell.ensures.err (record next { counts = counts_of_whole next.counts }) (c.count_whole.ensures.holds next (c.in_ok-whole.ensures.holds told holds)))
