-- Pictures, page by page.
use Rattle.std.proofs.Common.{◌≡◌, ℕ, ◌+◌, ◌<◌, length, take, get_or, Bool, true, false, ◌&&◌, is_some, List, [], ◌∷◌, ◌++◌, flat_map, Option, Some, None, IfSome, Ok, refl, subst, sym, ◌∙◌, ap, append_assoc}
use Rattle.std.specs.List.{list_all}
use Rattle.std.proofs.lemmas.List.{append-nil, map-append, take_more}
use Rattle.std.proofs.lemmas.List.Concat.{flat_map-append}
use Rattle.std.proofs.lemmas.List.Elements.{All-nil, All-push}
use Rattle.std.proofs.lemmas.List.Folds.{list_all-append}
use Rattle.fax_runcodes.specs.declared.format.Coding.TheVariants.{Mr}
use Rattle.fax_pagestore.specs.Pages as pages
use Rattle.fax_pagestore.specs.PageTexts.{MeansPage}
use Rattle.fax_pbm.specs.Pictures.{page_of}
use Rattle.fax_spool.specs.RecordOctets.{PageValue}
use Rattle.fax_listing.specs.Pictures.{FileValue, IsAdded, IsPictured, KeepsPicture, KeepsPictures, MeansNone, Pictured, file_list, is_made, picture_name, told_of, told_where}
use Rattle.fax_listing.specs.Telling.{no_page_text}

none_added : (made : Option (List FileValue)) → IfSome made (λ files. made ≡ Some (files ++ []))
none_added None = tt
none_added (Some files) = ap (λ (l : List FileValue). Some l) (sym (append-nil files))

-- no page was looked at
pub no_pictures : (prefix told : List ℕ) (made : Option (List FileValue)) → KeepsPictures prefix [] true told told made made
no_pictures prefix told made = record {
  pictured = [];
  of_pages = refl;
  each = All-nil (IsPictured prefix);
  whole = refl;
  told_is = sym (append-nil told);
  files_are = none_added made;
}

and_true : (b : Bool) → (b && true) ≡ b
and_true true = refl
and_true false = refl

added_both : (a b c : Option (List FileValue)) (xs ys : List FileValue) → IfSome a (λ files. b ≡ Some (files ++ xs)) → IfSome b (λ files. c ≡ Some (files ++ ys)) → IfSome a (λ files. c ≡ Some (files ++ (xs ++ ys)))
added_both None b c xs ys first then = tt
added_both (Some files) b c xs ys first then =
    (subst (λ (known : Option (List FileValue)). IfSome known (λ more. c ≡ Some (more ++ ys))) first then) ∙ ap (λ (l : List FileValue). Some l) (append_assoc files xs ys)

-- one page more was looked at
pub one_more : (prefix : List ℕ) (pages : List PageValue) (page : PageValue) (is_whole made : Bool) (before told more : List ℕ) (a b c : Option (List FileValue))
    → KeepsPictures prefix pages is_whole before told a b → KeepsPicture prefix page made told more b c
    → KeepsPictures prefix (pages ++ page ∷ []) (is_whole && made) before more a c
one_more prefix pages page is_whole made before told more a b c k p =
    let last : Pictured = record { page = page; file = p.file } in
    let files : Pictured → List FileValue = λ (q : Pictured). file_list q.file in
    record {
      pictured = k.pictured ++ last ∷ [];
      of_pages = map-append (λ (q : Pictured). q.page) k.pictured (last ∷ []) ∙ ap (λ (l : List PageValue). l ++ page ∷ []) k.of_pages;
      each = All-push (IsPictured prefix) k.pictured last k.each p.is;
      whole = ap (λ (t : Bool). t && made) k.whole ∙ ap (λ (t : Bool). list_all is_made k.pictured && t) (p.made_is ∙ sym (and_true (is_some p.file))) ∙ sym (list_all-append is_made k.pictured (last ∷ []));
      told_is =
          p.told_is ∙ ap (λ (l : List ℕ). l ++ told_where prefix page p.file) k.told_is ∙ append_assoc before (flat_map (told_of prefix) k.pictured) (told_where prefix page p.file)
          ∙ ap (λ (l : List ℕ). before ++ l) (ap (λ (l : List ℕ). flat_map (told_of prefix) k.pictured ++ l) (sym (append-nil (told_where prefix page p.file))) ∙ sym (flat_map-append (told_of prefix) k.pictured (last ∷ [])));
      files_are =
          subst (λ (l : List FileValue). IfSome a (λ known. c ≡ Some (known ++ l)))
          (ap (λ (l : List FileValue). flat_map files k.pictured ++ l) (sym (append-nil (file_list p.file))) ∙ sym (flat_map-append files k.pictured (last ∷ [])))
          (added_both a b c (flat_map files k.pictured) (file_list p.file) k.files_are p.files_are);
    }

-- one page more of some was looked at
pub one_page_more : (prefix : List ℕ) (pages : List PageValue) (i : ℕ) (page : PageValue) (is_whole made whole : Bool) (before told more : List ℕ) (a b c : Option (List FileValue))
    → i < length pages → get_or pages i page ≡ page → whole ≡ (is_whole && made)
    → KeepsPictures prefix (take i pages) is_whole before told a b → KeepsPicture prefix page made told more b c
    → KeepsPictures prefix (take (i + 1) pages) whole before more a c
one_page_more prefix pages i page is_whole made whole before told more a b c lt got is k p =
    let front : take (i + 1) pages ≡ take i pages ++ page ∷ [] = take_more pages i page lt ∙ ap (λ (q : PageValue). take i pages ++ q ∷ []) got in
    subst (λ (l : List PageValue). KeepsPictures prefix l whole before more a c) (sym front)
    (subst (λ (w : Bool). KeepsPictures prefix (take i pages ++ page ∷ []) w before more a c) (sym is) (one_more prefix (take i pages) page is_whole made before told more a b c k p))

pub both : (whole is_whole made : Bool) → is_whole ≡ true → whole ≡ made → whole ≡ (is_whole && made)
both whole is_whole made was is = is ∙ ap (λ (b : Bool). b && made) (sym was)

pub not_both : (whole is_whole made : Bool) → is_whole ≡ false → whole ≡ is_whole → whole ≡ (is_whole && made)
not_both whole is_whole made was is = is ∙ was ∙ ap (λ (b : Bool). b && made) (sym was)

-- one page was pictured
pub pictured : (prefix : List ℕ) (page : PageValue) (name told octets : List ℕ) (before after : Option (List FileValue)) (shown : pages.PageValue)
    → name ≡ picture_name prefix page → MeansPage page.format Mr page.text shown → page_of shown.format.fine octets ≡ Ok shown → IsAdded before after name octets
    → KeepsPicture prefix page true told told before after
pictured prefix page name told octets before after shown named means picture added = record {
  file = Some (record { name = name; octets = octets });
  is = record { named = named; shown = shown; means = means; picture = picture };
  made_is = refl;
  told_is = sym (append-nil told);
  files_are = added;
}

-- one page means none
pub not_pictured : (prefix : List ℕ) (page : PageValue) (name told more : List ℕ) (made : Option (List FileValue))
    → name ≡ picture_name prefix page → MeansNone page → more ≡ told ++ no_page_text name
    → KeepsPicture prefix page false told more made made
not_pictured prefix page name told more made named none is = record {
  file = None;
  is = none;
  made_is = refl;
  told_is = is ∙ ap (λ (l : List ℕ). told ++ no_page_text l) named;
  files_are = none_added made;
}
