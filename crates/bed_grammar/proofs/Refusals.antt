-- A list of tokens has one first error.
use Rattle.std.proofs.Common.{◌≡◌, List, [], ◌∷◌, ◌++◌, Option, Some, None, refl, ap, ap₂, sym, ◌∙◌, subst, ◌⊎◌, inl, inr, append_assoc}
use Rattle.std.proofs.lemmas.List.{append_cancel_left}
use Rattle.bed_grammar.specs.Grammar.{Marked, tokens_of, unmarked}
use Rattle.bed_grammar.specs.Exact.{peek, offending, PassesAt, StandsAtToken, FirstError}
use Rattle.bed_grammar.proofs.Sets.{tokens_of-append, tokens_of-unmarked, unmarked-append}

-- The list that begins with f goes on with the first element of a where it ends with g.
abbrev Longer : {S : Type 0} → List S → List S → List S → Type 0
Longer {S} f a g = (t : S) × (k : List S) × (left : List S) × (g ≡ f ++ (t ∷ k)) × (a ≡ t ∷ left)

abbrev Compared : {S : Type 0} → List S → List S → List S → List S → Type 0
Compared f a g b = ((f ≡ g) × (a ≡ b)) ⊎ (Longer f a g ⊎ Longer g b f)

one_more : {S : Type 0} (t x : S) (f a g b : List S) → t ≡ x → Compared f a g b → Compared (t ∷ f) a (x ∷ g) b
one_more t x f a g b h (inl (e, d)) = inl (ap₂ (λ i j. i ∷ j) h e, d)
one_more t x f a g b h (inr (inl (y, k, left, e, d))) = inr (inl (y, k, left, ap₂ (λ i j. i ∷ j) (sym h) e, d))
one_more t x f a g b h (inr (inr (y, k, left, e, d))) = inr (inr (y, k, left, ap₂ (λ i j. i ∷ j) h e, d))

-- two ways to part one list
compared : {S : Type 0} (f a g b : List S) → f ++ a ≡ g ++ b → Compared f a g b
compared [] a [] b e = inl (refl, e)
compared [] a (t ∷ g) b e = inr (inl (t, g, g ++ b, refl, e))
compared (t ∷ f) a [] b e = inr (inr (t, f, f ++ a, refl, sym e))
compared (t ∷ f) a (x ∷ g) b e =
    let h : t ≡ x = cc in
    let k : f ++ a ≡ g ++ b = cc in
    one_more t x f a g b h (compared f a g b k)

-- the tokens after some within the limits
tokens_after : {S L : Type 0} (front : List S) (more : Marked S L) → tokens_of (unmarked front ++ more) ≡ front ++ tokens_of more
tokens_after {S} {L} front more = tokens_of-append (unmarked front) more ∙ ap (λ z. z ++ tokens_of more) (tokens_of-unmarked L front)

-- a token within the limits isn't past one
not_past : {S L : Type 0} (w : Option L) (front rest : List S) (t : S) (more : Marked S L) → StandsAtToken w rest → PassesAt w front rest (unmarked front ++ ((t, None) ∷ more)) → ⊥
not_past None front rest t more a h = h
not_past (Some w) front [] t more a h = a
not_past {S} {L} (Some w) front (x ∷ rest) t more a (other, h) =
    let k : ◌≡◌ {A = Marked S L} ((t, None) ∷ more) ((x, Some w) ∷ other) = append_cancel_left (unmarked front) _ _ h in
    let e : ◌≡◌ {A = S × Option L} (t, None) (x, Some w) = cc in
    let f : None ≡ Some w = ap (λ z. z.1) e in cc

module _ {S L V : Type 0} (X : S → Type 0) (D : Marked S L → V → Type 0) where
  abbrev Passes : List S → List S → Option L → Type 0
  Passes front rest w = (p : Marked S L) (y : V) (r : List S) → D p y → tokens_of p ≡ front ++ r → peek r ≡ peek rest → PassesAt w front rest p

  -- no text has the refused token within the limits
  refused_there : (w : Option L) (front rest : List S) (t : S) (left : List S) (more : Marked S L) (y : V) → StandsAtToken w rest → Passes front rest w → rest ≡ t ∷ left → D (unmarked front ++ ((t, None) ∷ more)) y → ⊥
  refused_there w front rest t left more y a f e d = not_past w front rest t more a (f _ y (t ∷ tokens_of more) d (tokens_after front ((t, None) ∷ more)) (sym (ap peek e)))

  -- tokens that go on past the refused one begin no text within the limits
  pub refused_before : (s rest : List S) (w : Option L) (u : FirstError X D s rest w) (t : S) (k left : List S) (more : Marked S L) (y : V) → rest ≡ t ∷ left → D (unmarked (u.front ++ (t ∷ k)) ++ more) y → ⊥
  refused_before s rest w u t k left more y e d =
      refused_there w u.front rest t left (unmarked k ++ more) y u.at_token u.passes e
      (subst (λ (z : Marked S L). D z y) (ap (λ z. z ++ more) (unmarked-append u.front (t ∷ k)) ∙ append_assoc (unmarked u.front) (unmarked (t ∷ k)) more) d)

  same_limit : (front rest : List S) (w z : Option L) (c d : Marked S L) (x y : V) → StandsAtToken w rest → StandsAtToken z rest → D (unmarked front ++ (offending w rest ++ c)) x → D (unmarked front ++ (offending z rest ++ d)) y
      → Passes front rest w → Passes front rest z → w ≡ z
  same_limit front rest None None c d x y a b m n f g = refl
  same_limit front [] None (Some z) c d x y a b m n f g = absurd b
  same_limit front (t ∷ rest) None (Some z) c d x y a b m n f g = absurd (f _ y (t ∷ tokens_of d) n (tokens_after front ((t, Some z) ∷ d)) refl)
  same_limit front [] (Some w) z c d x y a b m n f g = absurd a
  same_limit front (t ∷ rest) (Some w) None c d x y a b m n f g = absurd (g _ x (t ∷ tokens_of c) m (tokens_after front ((t, Some w) ∷ c)) refl)
  same_limit front (t ∷ rest) (Some w) (Some z) c d x y a b m n f g =
      let (more, h) = f _ y (t ∷ tokens_of d) n (tokens_after front ((t, Some z) ∷ d)) refl in
      let k : ◌≡◌ {A = Marked S L} ((t, Some z) ∷ d) ((t, Some w) ∷ more) = append_cancel_left (unmarked front) _ _ h in
      let e : ◌≡◌ {A = S × Option L} (t, Some z) (t, Some w) = cc in
      let i : Some z ≡ Some w = ap (λ z. z.1) e in sym i

  -- The first wrong token and the limit that it passes are those of the list.
  pub one_first_error : (s rest other : List S) (w z : Option L) → FirstError X D s rest w → FirstError X D s other z → (rest ≡ other) × (w ≡ z)
  one_first_error s rest other w z u v = go (compared u.front rest v.front other (sym u.split ∙ v.split))
    where
      go : Compared u.front rest v.front other → (rest ≡ other) × (w ≡ z)
      go (inl (e, d)) =
          let a : StandsAtToken z rest = subst (λ (i : List S). StandsAtToken z i) (sym d) v.at_token in
          let n : D (unmarked u.front ++ (offending z rest ++ v.completion)) v.value =
          subst (λ (i : List S). D (unmarked u.front ++ (offending z i ++ v.completion)) v.value) (sym d) (subst (λ (i : List S). D (unmarked i ++ (offending z other ++ v.completion)) v.value) (sym e) v.viable) in
          let g : Passes u.front rest z = subst (λ (i : List S). Passes u.front i z) (sym d) (subst (λ (i : List S). Passes i other z) (sym e) v.passes) in
          (d, same_limit u.front rest w z u.completion v.completion u.value v.value u.at_token a u.viable n u.passes g)
      go (inr (inl (t, k, left, e, d))) =
          absurd (refused_before s rest w u t k left (offending z other ++ v.completion) v.value d (subst (λ (i : List S). D (unmarked i ++ (offending z other ++ v.completion)) v.value) e v.viable))
      go (inr (inr (t, k, left, e, d))) =
          absurd (refused_before s other z v t k left (offending w rest ++ u.completion) u.value d (subst (λ (i : List S). D (unmarked i ++ (offending w rest ++ u.completion)) u.value) e u.viable))
