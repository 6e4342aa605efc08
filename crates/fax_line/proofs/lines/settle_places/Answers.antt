use Rattle.std.proofs.Common.{Bool, [], List, is_ok, subst}
use Rattle.fax_line.specs.declared.settling.PageToStore.{PageToStore}
use Rattle.fax_line.specs.Operations.{EachComes}
use Rattle.fax_line.proofs.Slots.{comes_more, ends_if, turns_end}
use Rattle.fax_line.proofs.Stepping.{each_more}
use Rattle.fax_line.proofs.lines.settle_places.Goals as goal

pub returns-clause-went : goal.returns-clause-went
returns-clause-went g c = each_more (λ i. []) (λ i. []) c.args.places.now c.hand_over_all-pages.new.places c.end_turns.new.places c.hand_over_all-pages.ensures.went c.end_turns.ensures.went

pub returns-clause-waits : goal.returns-clause-waits
returns-clause-waits g c = comes_more (λ p. p.waits) c.args.places.now c.hand_over_all-pages.new.places c.end_turns.new.places c.hand_over_all-pages.ensures.waits c.end_turns.ensures.waits

pub returns-clause-awake : goal.returns-clause-awake
returns-clause-awake g c = comes_more (λ p. p.awake) c.args.places.now c.hand_over_all-pages.new.places c.end_turns.new.places c.hand_over_all-pages.ensures.awake c.end_turns.ensures.awake

pub returns-clause-settled : goal.returns-clause-settled
returns-clause-settled g c =
    let mids = c.hand_over_all-pages.new.places in
    let news = c.end_turns.new.places in
    let is_stored : Bool = is_ok c.store_pages-answer.result in
    turns_end c.hand_over_all-pages.result.items is_stored c.args.places.now mids news c.hand_over_all-pages.ensures.hands
    (subst (λ (l : List PageToStore). EachComes (ends_if l is_stored) mids news) c.as_slice-2.ensures.value
    (subst (λ (b : Bool). EachComes (ends_if c.as_slice-2.result.now b) mids news) c.is_ok.ensures.value c.end_turns.ensures.ends))
