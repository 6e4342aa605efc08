use Rattle.std.proofs.Common.{rules, ◌≡◌, List, codes, Some, ◌∙◌, sym, ap, subst}
use Rattle.toml.specs.View.{table_view}
use Rattle.fax_config.specs.declared.sip.TrunkConfig.{TrunkConfig}
use Rattle.fax_config.specs.Configurations.{AreUnlike}
use Rattle.fax_config.specs.Members.{IsTableAt}
use Rattle.fax_config.specs.SipConfigurations.{AreRoutesAt, AreTrunksAt, names_of_trunks}
use Rattle.fax_config.proofs.MemberLemmas.{seen_some, is_table}
use Rattle.fax_config.proofs.SipLemmas.{misfit_of_head}
use Rattle.fax_config.proofs.sip_reading.sip_of.Goals as goal

pub returns-in_err-head-clause-fault : goal.returns-in_err-head-clause-fault
returns-in_err-head-clause-fault c =
    let here = seen_some _ c.value_at.result _ c.in-Some.value c.in-Some.is c.value_at.ensures in
    let inner = seen_some _ c.as_table.result _ c.in-Some-as_table.inner c.in-Some-as_table.is c.as_table.ensures in
    let at = here ∙ ap (λ d. Some d) (is_table _ _ inner) in
    let fault = misfit_of_head (table_view c.args.table.now) (table_view c.in-Some-as_table.inner.now) c.in_err-head.field-0.0 at c.in_err-head.ensures.fault in
    search rules

pub returns-in_err-trunks_unlike-clause-fault : goal.returns-in_err-trunks_unlike-clause-fault
returns-in_err-trunks_unlike-clause-fault c =
    let fault = c.in_err-trunks_unlike.ensures.fault (table_view c.args.table.now)
    (subst (λ (trunks : List TrunkConfig). AreTrunksAt (table_view c.args.table.now) trunks) (sym c.as_slice.ensures.value) c.in_ok-trunks.ensures.told) in
    search rules

pub returns-in_err-routes-clause-fault : goal.returns-in_err-routes-clause-fault
returns-in_err-routes-clause-fault c =
    let fault = c.in_err-routes.ensures.fault
    (subst (λ (trunks : List TrunkConfig). AreTrunksAt (table_view c.args.table.now) trunks) (sym c.as_slice-2.ensures.value) c.in_ok-trunks.ensures.told) in
    search rules

pub returns-clause-told : goal.returns-clause-told
returns-clause-told c =
    let here = seen_some _ c.value_at.result _ c.in-Some.value c.in-Some.is c.value_at.ensures in
    let inner = seen_some _ c.as_table.result _ c.in-Some-as_table.inner c.in-Some-as_table.is c.as_table.ensures in
    let at : IsTableAt (codes "sip") (table_view c.args.table.now) (table_view c.in-Some-as_table.inner.now) = here ∙ ap (λ d. Some d) (is_table _ _ inner) in record {
      head = (table_view c.in-Some-as_table.inner.now, at, c.in_ok-head.ensures.told);
      trunks = c.in_ok-trunks.ensures.told;
      few_trunks = c.in_ok-trunks.ensures.few;
      names_unlike = subst (λ (trunks : List TrunkConfig). AreUnlike (names_of_trunks trunks)) c.as_slice.ensures.value c.in_ok-trunks_unlike.ensures.ok;
      routes = subst (λ (trunks : List TrunkConfig). AreRoutesAt trunks (table_view c.args.table.now) c.in_ok-routes.routes.items) c.as_slice-2.ensures.value c.in_ok-routes.ensures.told;
      few_routes = c.in_ok-routes.ensures.few;
    }
