-- Pages of a TIFF, one by one.
use Rattle.std.proofs.Common.{◌≡◌, ℕ, ◌+◌, ◌<◌, ◌≤◌, ◌^◌, ◌⊎◌, length, take, get_or, Bool, true, false, ◌&&◌, is_some, List, [], ◌∷◌, ◌++◌, flat_map, Option, Some, None, refl, subst, sym, ◌∙◌, ap, append_assoc, arith, codes}
use Rattle.std.specs.List.{list_all}
use Rattle.std.proofs.lemmas.List.{append-nil, map-append, take_more}
use Rattle.std.proofs.lemmas.List.Concat.{flat_map-append}
use Rattle.std.proofs.lemmas.List.Elements.{All-nil, All-push}
use Rattle.std.proofs.lemmas.List.Folds.{list_all-append}
use Rattle.fax_runcodes.specs.declared.format.Coding.TheVariants.{Mr}
use Rattle.fax_runcodes.specs.declared.format.Format.{Format}
use Rattle.fax_runcodes.specs.Widths.{elements_of}
use Rattle.fax_pagestore.specs.Pages.{IsPage, PageValue as PageShown}
use Rattle.fax_pagestore.specs.PageRows.{AreRows}
use Rattle.fax_pagestore.specs.PageTexts.{MeansPage}
use Rattle.fax_spool.specs.RecordOctets.{PageValue}
use Rattle.fax_tiff.specs.ReadTiffs.{MeansTiff}
use Rattle.fax_tiff.specs.Strips.{CodedPage, IsCodedPage}
use Rattle.fax_tiff.specs.TiffLaws.{AreCodedPages, TiffIsReadBack}
use Rattle.fax_tiff.specs.WrittenTiffs.{tiff_of}
use Rattle.fax_listing.specs.Pictures.{FileValue, IsAdded, MeansNone, picture_name}
use Rattle.fax_listing.specs.Telling.{no_page_text}
use Rattle.fax_listing.specs.Tiffs.{AddsCoded, AreTooLong, CodesPage, CodesPages, IsMeant, KeepsTiff, MakesTiff, MeanPages, Meant, shown_list, told_fit, told_unless}

abbrev is_one : Meant → Type 0
is_one m = IsMeant m.page m.shown

abbrev has_one : Meant → Bool
has_one m = is_some m.shown

abbrev told_one : Meant → List ℕ
told_one m = told_unless m.page m.shown

abbrev shown_one : Meant → List PageShown
shown_one m = shown_list m.shown

-- ---- a page

-- a text means a page
means_page : (page : PageValue) (shown : PageShown) → MeansPage page.format Mr page.text shown → IsPage shown
means_page page shown means = subst (λ (format : Format). AreRows (elements_of format.width) shown.rows) (sym means.0) means.1.are_rows

-- it is coded
pub one_coded : (page : PageValue) (shown : PageShown) (one : CodedPage) (old_coded coded : List CodedPage) (told : List ℕ)
    → MeansPage page.format Mr page.text shown → IsCodedPage shown one → coded ≡ old_coded ++ one ∷ [] → CodesPage page true old_coded coded told told
one_coded page shown one old_coded coded told means is added = record {
  shown = Some shown;
  is = means;
  coded_is = refl;
  told_is = sym (append-nil told);
  adds = (one, means_page page shown means, is, added);
}

-- or it means none
pub none_meant : (page : PageValue) (name : List ℕ) (coded : List CodedPage) (told more : List ℕ)
    → MeansNone page → name ≡ picture_name (codes "page") page → more ≡ told ++ no_page_text name → CodesPage page false coded coded told more
none_meant page name coded told more none named is = record {
  shown = None;
  is = none;
  coded_is = refl;
  told_is = is ∙ ap (λ (l : List ℕ). told ++ no_page_text l) named;
  adds = refl;
}

-- ---- pages

-- no page was coded
pub none_coded : (coded : List CodedPage) (told : List ℕ) → coded ≡ [] → CodesPages [] coded true told told
none_coded coded told none = record {
  shown = [];
  mean = record {
    each = [];
    of_pages = refl;
    are = All-nil is_one;
    shown_are = refl;
    all = refl;
    told_is = sym (append-nil told);
  };
  coded_are = subst (λ (l : List CodedPage). AreCodedPages [] l) (sym none) tt;
}

and_true : (b : Bool) → (b && true) ≡ b
and_true true = refl
and_true false = refl

coded_more : (shown : List PageShown) (coded : List CodedPage) (page : PageShown) (one : CodedPage) → AreCodedPages shown coded → IsPage page → IsCodedPage page one
    → AreCodedPages (shown ++ page ∷ []) (coded ++ one ∷ [])
coded_more [] [] page one are is coded_is = (is, coded_is, tt)
coded_more (first ∷ shown) (code ∷ coded) page one are is coded_is = (are.0, are.1, coded_more shown coded page one are.2 is coded_is)
coded_more [] (code ∷ coded) page one are is coded_is = absurd are
coded_more (first ∷ shown) [] page one are is coded_is = absurd are

-- what was coded of one page more
coded_after : (shown : List PageShown) (meant : Option PageShown) (coded new : List CodedPage) → AreCodedPages shown coded → AddsCoded meant coded new
    → AreCodedPages (shown ++ shown_list meant) new
coded_after shown None coded new are adds =
    subst (λ (l : List PageShown). AreCodedPages l new) (sym (append-nil shown)) (subst (λ (l : List CodedPage). AreCodedPages shown l) (sym adds) are)
coded_after shown (Some page) coded new are adds =
    subst (λ (l : List CodedPage). AreCodedPages (shown ++ page ∷ []) l) (sym adds.3) (coded_more shown coded page adds.0 are adds.1 adds.2)

mean_more : (pages : List PageValue) (page : PageValue) (shown : List PageShown) (meant : Option PageShown) (are_all is_coded : Bool) (before told more : List ℕ)
    → MeanPages pages shown are_all before told → IsMeant page meant → is_coded ≡ is_some meant → more ≡ told ++ told_unless page meant
    → MeanPages (pages ++ page ∷ []) (shown ++ shown_list meant) (are_all && is_coded) before more
mean_more pages page shown meant are_all is_coded before told more k is coded_is told_is =
    let last : Meant = record { page = page; shown = meant } in
    record {
      each = k.each ++ last ∷ [];
      of_pages = map-append (λ (m : Meant). m.page) k.each (last ∷ []) ∙ ap (λ (l : List PageValue). l ++ page ∷ []) k.of_pages;
      are = All-push is_one k.each last k.are is;
      shown_are = ap (λ (l : List PageShown). l ++ shown_list meant) k.shown_are
          ∙ ap (λ (l : List PageShown). flat_map shown_one k.each ++ l) (sym (append-nil (shown_list meant))) ∙ sym (flat_map-append shown_one k.each (last ∷ []));
      all = ap (λ (t : Bool). t && is_coded) k.all ∙ ap (λ (t : Bool). list_all has_one k.each && t) (coded_is ∙ sym (and_true (is_some meant))) ∙ sym (list_all-append has_one k.each (last ∷ []));
      told_is = told_is ∙ ap (λ (l : List ℕ). l ++ told_unless page meant) k.told_is ∙ append_assoc before (flat_map told_one k.each) (told_unless page meant)
          ∙ ap (λ (l : List ℕ). before ++ l) (ap (λ (l : List ℕ). flat_map told_one k.each ++ l) (sym (append-nil (told_unless page meant))) ∙ sym (flat_map-append told_one k.each (last ∷ [])));
    }

one_more : (pages : List PageValue) (page : PageValue) (coded new : List CodedPage) (are_all is_coded : Bool) (before told more : List ℕ)
    → CodesPages pages coded are_all before told → CodesPage page is_coded coded new told more → CodesPages (pages ++ page ∷ []) new (are_all && is_coded) before more
one_more pages page coded new are_all is_coded before told more k p = record {
  shown = k.shown ++ shown_list p.shown;
  mean = mean_more pages page k.shown p.shown are_all is_coded before told more k.mean p.is p.coded_is p.told_is;
  coded_are = coded_after k.shown p.shown coded new k.coded_are p.adds;
}

-- one page more of some was coded
pub one_page_coded : (pages : List PageValue) (i : ℕ) (page : PageValue) (coded new : List CodedPage) (are_all is_coded whole : Bool) (before told more : List ℕ)
    → i < length pages → get_or pages i page ≡ page → whole ≡ (are_all && is_coded)
    → CodesPages (take i pages) coded are_all before told → CodesPage page is_coded coded new told more → CodesPages (take (i + 1) pages) new whole before more
one_page_coded pages i page coded new are_all is_coded whole before told more lt got is k p =
    let front : take (i + 1) pages ≡ take i pages ++ page ∷ [] = take_more pages i page lt ∙ ap (λ (q : PageValue). take i pages ++ q ∷ []) got in
    subst (λ (l : List PageValue). CodesPages l new whole before more) (sym front)
    (subst (λ (w : Bool). CodesPages (take i pages ++ page ∷ []) new w before more) (sym is) (one_more (take i pages) page coded new are_all is_coded before told more k p))

-- ---- the file

-- what was written of coded pages means them
pub tiff_made : (name : List ℕ) (shown : List PageShown) (coded : List CodedPage) (written octets : List ℕ) (before after : Option (List FileValue)) → TiffIsReadBack
    → AreCodedPages shown coded → written ≡ tiff_of coded → octets ≡ written → 0 < length coded → length coded < 2 ^ 16 → length written < 2 ^ 32
    → IsAdded before after name octets → MakesTiff name shown true before after
tiff_made name [] [] written octets before after back are is same some few short added = absurd (omega arith)
tiff_made name (page ∷ shown) (one ∷ coded) written octets before after back are is same some few short added =
    let fits : length (tiff_of (one ∷ coded)) < 2 ^ 32 = subst (λ (l : List ℕ). length l < 2 ^ 32) is short in
    (octets, subst (λ (l : List ℕ). MeansTiff l (page ∷ shown)) (sym (same ∙ is)) (back (page ∷ shown) (one ∷ coded) are some few fits), added)
tiff_made name [] (one ∷ coded) written octets before after back are is same some few short added = absurd are
tiff_made name (page ∷ shown) [] written octets before after back are is same some few short added = absurd are

-- of no page none is made
pub no_tiff : (name : List ℕ) (shown : List PageShown) (coded : List CodedPage) (made : Option (List FileValue)) → AreCodedPages shown coded → coded ≡ []
    → MakesTiff name shown true made made
no_tiff name [] coded made are none = refl
no_tiff name (page ∷ shown) coded made are none = absurd (subst (λ (l : List CodedPage). AreCodedPages (page ∷ shown) l) none are)

-- nor where they are too long
pub no_room : (name : List ℕ) (shown : List PageShown) (coded : List CodedPage) (made : Option (List FileValue)) → AreCodedPages shown coded
    → ((2 ^ 16 ≤ length coded) ⊎ (2 ^ 32 ≤ length (tiff_of coded))) → MakesTiff name shown false made made
no_room name shown coded made are long = ((coded, are, long), refl)

-- pages were coded, and their TIFF was made
pub tiff_kept : (name : List ℕ) (pages : List PageValue) (coded : List CodedPage) (are_all fits whole : Bool) (before told more : List ℕ) (old new : Option (List FileValue))
    → CodesPages pages coded are_all before told → ((shown : List PageShown) → AreCodedPages shown coded → MakesTiff name shown fits old new)
    → more ≡ told ++ told_fit name fits → whole ≡ (are_all && fits) → KeepsTiff name pages whole before more old new
tiff_kept name pages coded are_all fits whole before told more old new k makes told_is is = record {
  shown = k.shown;
  are_all = are_all;
  fits = fits;
  told_between = told;
  mean = k.mean;
  makes = makes k.shown k.coded_are;
  told_is = told_is;
  whole = is;
}
