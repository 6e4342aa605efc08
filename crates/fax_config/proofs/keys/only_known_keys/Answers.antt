use Rattle.std.proofs.Common.{rules, arith, ◌≡◌, ℕ, List, [], ◌∷◌, length, true, Bor, String, Global, All, Contains, string_bytes, sym, ◌∙◌, subst}
use Rattle.std.specs.Map as maps
use Rattle.std.specs.Map.Iter.{deref}
use Rattle.std.proofs.lemmas.Grind.{common_steps}
use Rattle.std.proofs.lemmas.List.Elements.{All-append, All-cons, All-nil, All-map}
use Rattle.std.proofs.lemmas.Map.Iter.{iter_turn, iter_end}
use Rattle.toml.specs.View.{table_view}
use Rattle.fax_config.specs.Members.{keys_of, known_keys}
use Rattle.fax_config.proofs.KeyLemmas.{all_keys, contains_key}
use Rattle.fax_config.proofs.keys.only_known_keys.Goals as goal

pub returns-then-not-knows-clause-fault : goal.returns-then-not-knows-clause-fault
returns-then-not-knows-clause-fault c =
    let start : c.into_iter-key-iterator.result ≡ maps.keys_of c.args.table.now.entries = search rules in
    let turn = iter_turn deref (maps.keys_of c.args.table.now.entries) c.loop-key.yielded c.into_iter-key-iterator.result c.loop-key.key-iterator c.next.new.self c.next.result
    start c.loop-key.yielded_by c.in-Some.key c.in-Some.is c.next.ensures.steps in
    let same : string_bytes c.in_ok-from_str.field-0 ≡ string_bytes c.in-Some.key.now = c.in_ok-from_str.ensures.ok ∙ c.as_str-then-not-knows.ensures.value in
    subst (λ (name : List ℕ). Contains (keys_of (table_view c.args.table.now)) name × (Contains (known_keys c.args.level) name → ⊥)) (sym same) (
      contains_key c.args.table.now.entries (length c.loop-key.yielded) c.in-Some.key.now turn.1,
      λ here. let yes : c.knows.result ≡ true = c.knows.ensures.1 (subst (λ (name : List ℕ). Contains (known_keys c.args.level) name) (sym c.as_str.ensures.value) here) in
          first_of (search rules, cc, grind (arith, common_steps)),
    )

pub loop-key-preserved : goal.loop-key-preserved
loop-key-preserved c =
    let yes : c.knows.result ≡ true = first_of (search rules, cc, grind (arith, common_steps)) in
    let known : Contains (known_keys c.args.level) (string_bytes c.in-Some.key.now) = subst (λ (name : List ℕ). Contains (known_keys c.args.level) name) c.as_str.ensures.value (c.knows.ensures.0 yes) in
    let P : Bor (String Global) → Type 0 = λ key. Contains (known_keys c.args.level) (string_bytes key.now) in
    All-append P c.loop-key.yielded (c.in-Some.key ∷ []) c.loop-key.invariant (All-cons P c.in-Some.key [] known (All-nil P))

pub returns-clause-ok : goal.returns-clause-ok
returns-clause-ok c =
    let start : c.into_iter-key-iterator.result ≡ maps.keys_of c.args.table.now.entries = search rules in
    let done = iter_end deref (maps.keys_of c.args.table.now.entries) c.loop-key.yielded c.into_iter-key-iterator.result c.loop-key.key-iterator c.next.new.self c.next.result
    start c.loop-key.yielded_by c.in-None.is c.next.ensures.steps in
    let P : String Global → Type 0 = λ key. Contains (known_keys c.args.level) (string_bytes key) in
    all_keys (Contains (known_keys c.args.level)) c.args.table.now.entries (subst (All P) done.0 (All-map P deref c.loop-key.yielded c.loop-key.invariant))
