use Rattle.std.proofs.Common.{rules, List, sym, subst}
use Rattle.toml.specs.View.{table_view}
use Rattle.fax_config.specs.declared.config.LineConfig.{LineConfig}
use Rattle.fax_config.specs.declared.config.RedialConfig.{RedialConfig}
use Rattle.fax_config.specs.Configurations.{AreLinesAt, AreRedialsAt, AreUnlike, IsUnlikeSip, locals_of_all, names_of_all}
use Rattle.fax_config.proofs.reading.config_of.Goals as goal

pub returns-in-Ok-clause-told : goal.returns-in-Ok-clause-told
returns-in-Ok-clause-told c = record {
  keys = c.in-Ok.ensures.keys;
  control = c.in-Ok.ensures.control;
  spool = c.in-Ok.ensures.spool;
  http = c.in-Ok.ensures.http;
  stop_seconds = c.in-Ok.ensures.stop;
  stop_in_range = c.in-Ok.ensures.stop_in_range;
  memory = c.in-Ok.ensures.memory;
  memory_in_range = c.in-Ok.ensures.memory_in_range;
  lines = c.in_ok-lines.ensures.told;
  few = c.in_ok-lines.ensures.few;
  retry = c.in_ok-retry.ensures.told;
  few_retries = c.in_ok-retry.ensures.few;
  redial = c.in_ok-redial.ensures.told;
  few_redials = c.in_ok-redial.ensures.few;
  names_unlike = subst (λ (redials : List RedialConfig). AreUnlike (names_of_all c.in_ok-lines.lines.items redials)) c.as_slice-2.ensures.value
      (subst (λ (lines : List LineConfig). AreUnlike (names_of_all lines c.as_slice-2.result.now)) c.as_slice.ensures.value c.in_ok-names_unlike.ensures.ok);
  addresses_unlike = subst (λ (redials : List RedialConfig). AreUnlike (locals_of_all c.in_ok-lines.lines.items redials)) c.as_slice-4.ensures.value
      (subst (λ (lines : List LineConfig). AreUnlike (locals_of_all lines c.as_slice-4.result.now)) c.as_slice-3.ensures.value c.in_ok-locals_unlike.ensures.ok);
  sip = c.in_ok-sip.ensures.told;
  sip_unlike = subst (λ (redials : List RedialConfig). IsUnlikeSip c.in_ok-lines.lines.items redials c.in_ok-sip.sip) c.as_slice-6.ensures.value
      (subst (λ (lines : List LineConfig). IsUnlikeSip lines c.as_slice-6.result.now c.in_ok-sip.sip) c.as_slice-5.ensures.value c.in_ok-sip.ensures.unlike);
}

pub returns-in_err-names_unlike-clause-fault : goal.returns-in_err-names_unlike-clause-fault
returns-in_err-names_unlike-clause-fault c =
    let here = c.in_err-names_unlike.ensures.fault (table_view c.args.table.now)
    (subst (λ (lines : List LineConfig). AreLinesAt (table_view c.args.table.now) lines) (sym c.as_slice.ensures.value) c.in_ok-lines.ensures.told)
    (subst (λ (redials : List RedialConfig). AreRedialsAt (table_view c.args.table.now) redials) (sym c.as_slice-2.ensures.value) c.in_ok-redial.ensures.told) in
    search rules

pub returns-in_err-locals_unlike-clause-fault : goal.returns-in_err-locals_unlike-clause-fault
returns-in_err-locals_unlike-clause-fault c =
    let here = c.in_err-locals_unlike.ensures.fault (table_view c.args.table.now)
    (subst (λ (lines : List LineConfig). AreLinesAt (table_view c.args.table.now) lines) (sym c.as_slice-3.ensures.value) c.in_ok-lines.ensures.told)
    (subst (λ (redials : List RedialConfig). AreRedialsAt (table_view c.args.table.now) redials) (sym c.as_slice-4.ensures.value) c.in_ok-redial.ensures.told) in
    search rules
