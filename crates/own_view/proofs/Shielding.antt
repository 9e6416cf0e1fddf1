-- No `<` is left.
use Rattle.std.proofs.Common.{◌≢◌, ◌∙◌, ℕ, List, [], ◌∷◌, codes, refl, sym, subst, ⊎_elim}
use Rattle.std.specs.List.{flat_map}
use Rattle.std.proofs.lemmas.Bool.{cases_eq, cond-false, eqb-false, ne_eqb}
use Rattle.std.proofs.lemmas.List.Elements.{All-append, All-cons, All-nil}
use Rattle.own_view.specs.Page.{HasNoTag, shield}

abbrev NoTag : ℕ → Type 0
NoTag b = b ≢ 60

plain : (b : ℕ) (bs : List ℕ) → NoTag b → HasNoTag bs → HasNoTag (b ∷ bs)
plain b bs ne h = All-cons NoTag b bs ne h

less : HasNoTag (codes "&lt;")
less =
    plain 38 (108 ∷ 116 ∷ 59 ∷ []) (eqb-false 38 60 refl)
    (plain 108 (116 ∷ 59 ∷ []) (eqb-false 108 60 refl)
    (plain 116 (59 ∷ []) (eqb-false 116 60 refl)
    (plain 59 [] (eqb-false 59 60 refl) (All-nil NoTag))))

and : HasNoTag (codes "&amp;")
and =
    plain 38 (97 ∷ 109 ∷ 112 ∷ 59 ∷ []) (eqb-false 38 60 refl)
    (plain 97 (109 ∷ 112 ∷ 59 ∷ []) (eqb-false 97 60 refl)
    (plain 109 (112 ∷ 59 ∷ []) (eqb-false 109 60 refl)
    (plain 112 (59 ∷ []) (eqb-false 112 60 refl)
    (plain 59 [] (eqb-false 59 60 refl) (All-nil NoTag)))))

one_shielded : (b : ℕ) → HasNoTag (shield b)
one_shielded b = ⊎_elim
    (λ is. subst (λ n. HasNoTag (shield n)) (sym is) less)
    (λ other. ⊎_elim
    (λ is. subst (λ n. HasNoTag (shield n)) (sym is) and)
    (λ neither.
    subst HasNoTag (sym (cond-false _ _ _ (ne_eqb b 60 other) ∙ cond-false _ _ _ (ne_eqb b 38 neither))) (plain b [] other (All-nil NoTag)))
    (cases_eq b 38))
    (cases_eq b 60)

pub all_shielded : (text : List ℕ) → HasNoTag (flat_map shield text)
all_shielded [] = All-nil NoTag
all_shielded (b ∷ bs) = All-append NoTag (shield b) (flat_map shield bs) (one_shielded b) (all_shielded bs)
