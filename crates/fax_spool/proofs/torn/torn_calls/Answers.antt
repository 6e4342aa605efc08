use Rattle.std.proofs.Common.{[], ◌++◌, List, sym, ◌∙◌, ap}
use Rattle.fax_spool.specs.Torn.{CallName, torn_among}
use Rattle.fax_spool.proofs.TornCalls.{neither, torn_both}
use Rattle.fax_spool.proofs.torn.torn_calls.Goals as goal

pub returns-then-not-has_damage-2 : goal.returns-then-not-has_damage-2
returns-then-not-has_damage-2 c = c.new-calls.ensures.items ∙ sym (neither c.args.olds.now c.args.news.now (sym c.if-not-has_damage.ensures) (sym c.if-not-has_damage-2.ensures))

pub returns : goal.returns
returns c =
    let olds = c.args.olds.now in
    let news = c.args.news.now in
    c.in_ok-push_torn-2.ensures
    ∙ ap (λ (l : List CallName). l ++ torn_among olds news [])
    (c.in_ok-push_torn.ensures ∙ ap (λ (l : List CallName). l ++ torn_among [] olds news) c.new-calls.ensures.items)
    ∙ torn_both olds news
