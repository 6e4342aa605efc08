use Rattle.std.proofs.Common.{refl, sym, subst}
use Rattle.std.proofs.lemmas.Result.{err_from_is_err_and}
use Rattle.fax_send_receive.specs.declared.run_fault.RunFault.TheVariants.{NoMemory}
use Rattle.fax_send_receive.specs.Naming.{Naming, naming_of}
use Rattle.fax_send_receive.specs.Storing.{AddsFiles, FilingValue, HasBroken}
use Rattle.fax_send_receive.proofs.StoringLemmas.{ends_before, ends_between, ends_in, one_call_more, store_fault}
use Rattle.fax_send_receive.proofs.receiving.answer_calls.Goals as goal

-- the clock tells nothing, before the first call
pub returns-in_err-pace-clause-files : goal.returns-in_err-pace-clause-files
returns-in_err-pace-clause-files g c =
    let p = err_from_is_err_and c.from_residual.result c.from_residual.ensures.1 in
    rw (p.1, p.2) (ends_before (naming_of c.args.options.naming) c.args.options.settings.preamble_ms _ c.args.pages.now.made c.args.pages.now.made refl)

-- there is no time any more between two calls
pub returns-in_default-clause-files : goal.returns-in_default-clause-files
returns-in_default-clause-files g c =
    ends_between (naming_of c.args.options.naming) c.args.options.settings.preamble_ms c.loop-answered._answered _ c.args.pages.now.made c.loop-answered.pages.made c.loop-answered.invariant

-- or no memory
pub returns-in_err-begin_call-clause-files : goal.returns-in_err-begin_call-clause-files
returns-in_err-begin_call-clause-files g c =
    let naming : Naming = naming_of c.args.options.naming in
    let pause = c.args.options.settings.preamble_ms in
    let p = err_from_is_err_and c.from_residual-in_err-begin_call.result c.from_residual-in_err-begin_call.ensures.1 in
    rw (p.1, p.2)
    (subst (λ (now : FilingValue). AddsFiles (HasBroken naming pause NoMemory) c.args.pages.now.made now.made) (sym c.in_err-begin_call.ensures.err)
    (ends_between naming pause c.loop-answered._answered _ c.args.pages.now.made c.loop-answered.pages.made c.loop-answered.invariant))

-- a call goes no further
pub returns-in-Err-clause-files : goal.returns-in-Err-clause-files
returns-in-Err-clause-files g c =
    let naming : Naming = naming_of c.args.options.naming in
    let pause = c.args.options.settings.preamble_ms in
    let fault = c.fault_of.result in
    subst (λ (now : FilingValue). AddsFiles (HasBroken naming pause fault) c.args.pages.now.made now.made) (sym c.fault_of.ensures.same)
    (ends_in naming pause c.loop-answered._answered _ fault c.args.pages.now.made c.loop-answered.pages c.begin_call.new.self c.receive_call.new.store
    c.loop-answered.invariant c.in_ok-begin_call.ensures.ok c.in-Err.ensures.kept (store_fault c.in-Err.fault fault naming c.fault_of.ensures.storage))

-- a call is over
pub loop-answered-preserved : goal.loop-answered-preserved
loop-answered-preserved g c =
    one_call_more (naming_of c.args.options.naming) c.args.options.settings.preamble_ms c.loop-answered._answered c.args.pages.now.made
    c.loop-answered.pages c.begin_call.new.self c.receive_call.new.store c.loop-answered.invariant c.in_ok-begin_call.ensures.ok c.in-Ok.ensures.whole
