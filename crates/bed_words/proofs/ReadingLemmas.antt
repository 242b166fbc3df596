-- How the words after a command's first word are read: what a reading that ends well says, that a wrong word stays wrong
-- whatever follows it, and that the words before it begin a command.
use Rattle.std.proofs.Common.{◌≡◌, ℕ, suc, ◌+◌, ◌<◌, ◌≤◌, ◌⊎◌, inl, inr, Bool, true, false, not, if◌then◌else◌, List, [], ◌∷◌, ◌++◌, length, take, codes, refl, sym, ap, ◌∙◌, subst, arith, Option, Some, None, Ok, Err, append_assoc, append-nil}
use Rattle.std.specs.Prelude.{bytes_eq, is_some, Result}
use Rattle.std.proofs.lemmas.Bool.{cases_Bool, and_parts}
use Rattle.bed_words.specs.declared.verb.Verb.{Verb}
use Rattle.bed_words.specs.declared.verb.Verb.TheVariants as verb
use Rattle.bed_words.specs.declared.command.Command.{Command}
use Rattle.bed_words.specs.declared.command.Command.TheVariants as command
use Rattle.bed_lex.specs.Tokens.{fixed_word}
use Rattle.bed_lex.specs.Words.{fixed_words, reserved_words, marks}
use Rattle.bed_words.specs.Values.{number_of, import_of, block_of, size_of}
use Rattle.bed_words.specs.Options.{is_option, takes, names_file, fits, IsOnceEach, AreOptions}
use Rattle.bed_words.specs.Commands.{IsPlain, command_of, generates}
use Rattle.bed_words.specs.Reading.{may_come, lacks, lawful_plain, or_wrong, read_plain, read_files, later, read_last, read_two, read_options}
use Rattle.bed_words.proofs.OptionLemmas.{IsPaired, paired-two, is_given-last, once-two, once-may_come}

-- one step of the reading
module _ (v : Verb) (before : List (List ℕ)) where
  pub read-plain : (w : List ℕ) (ws : List (List ℕ)) → is_option w ≡ false → read_options v before (w ∷ ws) ≡ read_files v before (w ∷ ws)
  unfolding read_options
  read-plain w [] e = ap (λ b. read_last b (may_come v before w) (read_files v before (w ∷ []))) e
  read-plain w (x ∷ rest) e =
      ap (λ b. read_two b (may_come v before w) (fits w x) (read_options v (before ++ w ∷ x ∷ []) rest) (read_files v before (w ∷ x ∷ rest))) e

  pub read-refused : (w : List ℕ) (ws : List (List ℕ)) → is_option w ≡ true → may_come v before w ≡ false → read_options v before (w ∷ ws) ≡ Err 0
  unfolding read_options
  read-refused w [] e f =
      ap (λ b. read_last b (may_come v before w) (read_files v before (w ∷ []))) e
      ∙ ap (λ b. read_last true b (read_files v before (w ∷ []))) f
  read-refused w (x ∷ rest) e f =
      ap (λ b. read_two b (may_come v before w) (fits w x) (read_options v (before ++ w ∷ x ∷ []) rest) (read_files v before (w ∷ x ∷ rest))) e
      ∙ ap (λ b. read_two true b (fits w x) (read_options v (before ++ w ∷ x ∷ []) rest) (read_files v before (w ∷ x ∷ rest))) f

  pub read-open : (w : List ℕ) → is_option w ≡ true → may_come v before w ≡ true → read_options v before (w ∷ []) ≡ Err 1
  unfolding read_options
  read-open w e f =
      ap (λ b. read_last b (may_come v before w) (read_files v before (w ∷ []))) e
      ∙ ap (λ b. read_last true b (read_files v before (w ∷ []))) f

  three : (w x : List ℕ) (rest : List (List ℕ)) (c : Bool) → is_option w ≡ true → may_come v before w ≡ true → fits w x ≡ c
      → read_options v before (w ∷ x ∷ rest) ≡ read_two true true c (read_options v (before ++ w ∷ x ∷ []) rest) (read_files v before (w ∷ x ∷ rest))
  unfolding read_options
  three w x rest c e f g =
      ap (λ b. read_two b (may_come v before w) (fits w x) (read_options v (before ++ w ∷ x ∷ []) rest) (read_files v before (w ∷ x ∷ rest))) e
      ∙ ap (λ b. read_two true b (fits w x) (read_options v (before ++ w ∷ x ∷ []) rest) (read_files v before (w ∷ x ∷ rest))) f
      ∙ ap (λ b. read_two true true b (read_options v (before ++ w ∷ x ∷ []) rest) (read_files v before (w ∷ x ∷ rest))) g

  pub read-unfit : (w x : List ℕ) (rest : List (List ℕ)) → is_option w ≡ true → may_come v before w ≡ true → fits w x ≡ false
      → read_options v before (w ∷ x ∷ rest) ≡ Err 1
  read-unfit w x rest e f g = three w x rest false e f g

  pub read-further : (w x : List ℕ) (rest : List (List ℕ)) → is_option w ≡ true → may_come v before w ≡ true → fits w x ≡ true
      → read_options v before (w ∷ x ∷ rest) ≡ later 2 (read_options v (before ++ w ∷ x ∷ []) rest)
  read-further w x rest e f g = three w x rest true e f g

  pub read-nothing : read_options v before [] ≡ read_files v before []
  unfolding read_options
  read-nothing = refl

-- the words after these options, by what stands at their front
pub data Read (v : Verb) : List (List ℕ) → List (List ℕ) → Type 0 where
  ends : (before : List (List ℕ)) → Read v before []
  plain : (before : List (List ℕ)) (w : List ℕ) (ws : List (List ℕ)) → is_option w ≡ false → Read v before (w ∷ ws)
  refused : (before : List (List ℕ)) (w : List ℕ) (ws : List (List ℕ)) → is_option w ≡ true → may_come v before w ≡ false → Read v before (w ∷ ws)
  alone : (before : List (List ℕ)) (w : List ℕ) → is_option w ≡ true → may_come v before w ≡ true → Read v before (w ∷ [])
  unfit : (before : List (List ℕ)) (w x : List ℕ) (rest : List (List ℕ)) → is_option w ≡ true → may_come v before w ≡ true → fits w x ≡ false
      → Read v before (w ∷ x ∷ rest)
  given : (before : List (List ℕ)) (w x : List ℕ) (rest : List (List ℕ)) → is_option w ≡ true → may_come v before w ≡ true → fits w x ≡ true
      → Read v (before ++ w ∷ x ∷ []) rest → Read v before (w ∷ x ∷ rest)

read-one : (v : Verb) (before : List (List ℕ)) (w : List ℕ) → (is_option w ≡ true) ⊎ (is_option w ≡ false)
    → (may_come v before w ≡ true) ⊎ (may_come v before w ≡ false) → Read v before (w ∷ [])
read-one v before w (inr e) f = plain before w [] e
read-one v before w (inl e) (inr f) = refused before w [] e f
read-one v before w (inl e) (inl f) = alone before w e f

read-two : (v : Verb) (before : List (List ℕ)) (w x : List ℕ) (rest : List (List ℕ)) → (is_option w ≡ true) ⊎ (is_option w ≡ false)
    → (may_come v before w ≡ true) ⊎ (may_come v before w ≡ false) → (fits w x ≡ true) ⊎ (fits w x ≡ false)
    → Read v (before ++ w ∷ x ∷ []) rest → Read v before (w ∷ x ∷ rest)
read-two v before w x rest (inr e) f g further = plain before w (x ∷ rest) e
read-two v before w x rest (inl e) (inr f) g further = refused before w (x ∷ rest) e f
read-two v before w x rest (inl e) (inl f) (inr g) further = unfit before w x rest e f g
read-two v before w x rest (inl e) (inl f) (inl g) further = given before w x rest e f g further

pub read : (v : Verb) (before words : List (List ℕ)) → Read v before words
read v before [] = ends before
read v before (w ∷ []) = read-one v before w (cases_Bool (is_option w)) (cases_Bool (may_come v before w))
read v before (w ∷ x ∷ rest) =
    read-two v before w x rest (cases_Bool (is_option w)) (cases_Bool (may_come v before w)) (cases_Bool (fits w x)) (read v (before ++ w ∷ x ∷ []) rest)

later-Err : (n : ℕ) (r : Result Command ℕ) (i : ℕ) → later n r ≡ Err i → (j : ℕ) × ((r ≡ Err j) × (i ≡ j + n))
later-Err n (Ok c) i e = absurd (cc)
later-Err n (Err j) i e = (j, (refl, cc))

later-Ok : (n : ℕ) (r : Result Command ℕ) (c : Command) → later n r ≡ Ok c → r ≡ Ok c
later-Ok n (Ok d) c e = e
later-Ok n (Err j) c e = absurd (cc)

-- plain words

gen-none : (o : List (List ℕ)) (k : List ℕ) (ws : List (List ℕ)) → size_of k ≡ None → read_plain verb.Gen o (k ∷ ws) ≡ Err 0
gen-none o k [] e = ap (λ s. or_wrong (generates s) (if is_some s then 1 else 0)) e
gen-none o k (x ∷ rest) e = ap (λ s. or_wrong None (if is_some s then 1 else 0)) e

gen-more : (o : List (List ℕ)) (k x : List ℕ) (rest : List (List ℕ)) (n : ℕ) → size_of k ≡ Some n → read_plain verb.Gen o (k ∷ x ∷ rest) ≡ Err 1
gen-more o k x rest n e = ap (λ s. or_wrong None (if is_some s then 1 else 0)) e

gen-one : (o : List (List ℕ)) (k : List ℕ) (n : ℕ) → size_of k ≡ Some n → read_plain verb.Gen o (k ∷ []) ≡ Ok (command.Gen n)
gen-one o k n e = ap (λ s. or_wrong (generates s) (if is_some s then 1 else 0)) e

pub maybe : (o : Option ℕ) → ((n : ℕ) × (o ≡ Some n)) ⊎ (o ≡ None)
maybe None = inr refl
maybe (Some n) = inl (n, refl)

-- where the plain words are wrong at a word that is there, they stay wrong whatever follows it
abbrev StayPlain : Verb → List (List ℕ) → List (List ℕ) → ℕ → Type 0
StayPlain v o ws i = (more : List (List ℕ)) → read_plain v o (take (suc i) ws ++ more) ≡ Err i

moved : (v : Verb) (o ws : List (List ℕ)) (k i : ℕ) → ◌≡◌ {A = Result Command ℕ} (Err k) (Err i) → StayPlain v o ws k → StayPlain v o ws i
moved v o ws k i e s = let same : k ≡ i = cc in subst (λ n. StayPlain v o ws n) same s

over : (k i : ℕ) → ◌≡◌ {A = Result Command ℕ} (Err k) (Err i) → i < k → ⊥
over k i e l = let same : k ≡ i = cc in omega arith

at_one : (k i : ℕ) → ◌≡◌ {A = Result Command ℕ} (Err k) (Err i) → i < 1 → 1 ≤ k → ⊥
at_one k i e l m = let same : k ≡ i = cc in omega arith

plain-stays : (v : Verb) (o ws : List (List ℕ)) (i : ℕ) → read_plain v o ws ≡ Err i → i < length ws → StayPlain v o ws i
plain-stays v o [] i e l = absurd (omega arith)
plain-stays verb.Link o (a ∷ []) i e l = absurd (at_one 1 i e l (omega arith))
plain-stays verb.Link o (a ∷ b ∷ rest) i e l = absurd (cc)
plain-stays verb.Check o (a ∷ rest) i e l = absurd (cc)
plain-stays verb.Run o (a ∷ []) i e l = absurd (at_one 1 i e l (omega arith))
plain-stays verb.Run o (a ∷ b ∷ rest) i e l = absurd (cc)
plain-stays verb.Exec o (a ∷ []) i e l = absurd (at_one 1 i e l (omega arith))
plain-stays verb.Exec o (a ∷ b ∷ []) i e l = absurd (cc)
plain-stays verb.Exec o (a ∷ b ∷ c ∷ rest) i e l = moved verb.Exec o (a ∷ b ∷ c ∷ rest) 2 i e (λ more. refl)
plain-stays verb.Disasm o (a ∷ []) i e l = absurd (cc)
plain-stays verb.Disasm o (a ∷ b ∷ rest) i e l = moved verb.Disasm o (a ∷ b ∷ rest) 1 i e (λ more. refl)
plain-stays verb.Conditions o (a ∷ rest) i e l = absurd (cc)
plain-stays verb.Gen o (k ∷ rest) i e l = by rest e (maybe (size_of k))
  where
    by : (rest : List (List ℕ)) → read_plain verb.Gen o (k ∷ rest) ≡ Err i → ((n : ℕ) × (size_of k ≡ Some n)) ⊎ (size_of k ≡ None)
        → StayPlain verb.Gen o (k ∷ rest) i
    by rest e (inr none) = moved verb.Gen o (k ∷ rest) 0 i (sym (gen-none o k rest none) ∙ e) (λ more. gen-none o k more none)
    by [] e (inl some) = let f : Ok (command.Gen some.0) ≡ Err i = sym (gen-one o k some.0 some.1) ∙ e in absurd (cc)
    by (x ∷ rest) e (inl some) =
        moved verb.Gen o (k ∷ x ∷ rest) 1 i (sym (gen-more o k x rest some.0 some.1) ∙ e) (λ more. gen-more o k x more some.0 some.1)

files-stay : (v : Verb) (o ws : List (List ℕ)) (i : ℕ) → read_files v o ws ≡ Err i → i < length ws
    → (more : List (List ℕ)) → read_files v o (take (suc i) ws ++ more) ≡ Err i
files-stay v o ws i e l more = by (lacks v o) e
  where
    by : (b : Bool) → (if b then Err 0 else read_plain v o ws) ≡ Err i → (if b then Err 0 else read_plain v o (take (suc i) ws ++ more)) ≡ Err i
    by true e = e
    by false e = plain-stays v o ws i e l more

-- a wrong word that is there stays wrong, whatever follows it
two_more : (j i : ℕ) → i ≡ j + 2 → suc (suc j) ≡ i
two_more j i e = omega arith

pub stays : (v : Verb) (before words : List (List ℕ)) → Read v before words → (i : ℕ) → read_options v before words ≡ Err i → i < length words
    → (more : List (List ℕ)) → read_options v before (take (suc i) words ++ more) ≡ Err i
stays v before words (ends _) i e l more = absurd (omega arith)
stays v before words (plain _ w ws o) i e l more =
    read-plain v before w (take i ws ++ more) o ∙ files-stay v before (w ∷ ws) i (sym (read-plain v before w ws o) ∙ e) l more
stays v before words (refused _ w ws o m) i e l more =
    read-refused v before w (take i ws ++ more) o m ∙ sym (read-refused v before w ws o m) ∙ e
stays v before words (alone _ w o m) i e l more = absurd (at_one 1 i (sym (read-open v before w o m) ∙ e) l (omega arith))
stays v before words (unfit _ w x rest o m f) i e l more = at 1 i (sym (read-unfit v before w x rest o m f) ∙ e) (read-unfit v before w x more o m f)
  where
    at : (k i : ℕ) → ◌≡◌ {A = Result Command ℕ} (Err k) (Err i) → read_options v before (take (suc k) (w ∷ x ∷ rest) ++ more) ≡ Err k
        → read_options v before (take (suc i) (w ∷ x ∷ rest) ++ more) ≡ Err i
    at k i e s = let same : k ≡ i = cc in subst (λ n. read_options v before (take (suc n) (w ∷ x ∷ rest) ++ more) ≡ Err n) same s
stays v before words (given _ w x rest o m f further) i e l more =
    let inner = later-Err 2 (read_options v (before ++ w ∷ x ∷ []) rest) i (sym (read-further v before w x rest o m f) ∙ e) in
    let j : ℕ = inner.0 in
    let two : suc (suc j) ≡ i = two_more j i inner.1.1 in
    let below : j < length rest = shorter j i (length rest) two l in
    subst (λ n. read_options v before (take (suc n) (w ∷ x ∷ rest) ++ more) ≡ Err n) two
    (read-further v before w x (take (suc j) rest ++ more) o m f
    ∙ ap (later 2) (stays v (before ++ w ∷ x ∷ []) rest further j inner.1.0 below more)
    ∙ ap (λ n. Err n) (plus_two j))
  where
    shorter : (j i n : ℕ) → suc (suc j) ≡ i → i < suc (suc n) → j < n
    shorter j i n e l = omega arith

    plus_two : (j : ℕ) → j + 2 ≡ suc (suc j)
    plus_two j = omega arith

-- what follows words so that they are a command
abbrev pub Completes : Verb → List (List ℕ) → List (List ℕ) → Type 0
Completes v before words = (more : List (List ℕ)) × ((c : Command) × (read_options v before (words ++ more) ≡ Ok c))

ready : (v : Verb) (before : List (List ℕ)) (w : List ℕ) (ws : List (List ℕ)) (c : Command) → is_option w ≡ false → lacks v before ≡ false
    → read_plain v before (w ∷ ws) ≡ Ok c → read_options v before (w ∷ ws) ≡ Ok c
ready v before w ws c o l e = read-plain v before w ws o ∙ ap (λ b. if b then Err 0 else read_plain v before (w ∷ ws)) l ∙ e

-- plain words for each command
completes-plain : (v : Verb) (before : List (List ℕ)) → lacks v before ≡ false → Completes v before []
completes-plain verb.Link before l = (codes "a" ∷ codes "a" ∷ [], (_, ready verb.Link before (codes "a") (codes "a" ∷ []) _ refl l refl))
completes-plain verb.Check before l = (codes "a" ∷ [], (_, ready verb.Check before (codes "a") [] _ refl l refl))
completes-plain verb.Run before l = (codes "a" ∷ codes "a" ∷ [], (_, ready verb.Run before (codes "a") (codes "a" ∷ []) _ refl l refl))
completes-plain verb.Exec before l = (codes "a" ∷ codes "a" ∷ [], (_, ready verb.Exec before (codes "a") (codes "a" ∷ []) _ refl l refl))
completes-plain verb.Disasm before l = (codes "a" ∷ [], (_, ready verb.Disasm before (codes "a") [] _ refl l refl))
completes-plain verb.Conditions before l = (codes "a" ∷ [], (_, ready verb.Conditions before (codes "a") [] _ refl l refl))
completes-plain verb.Gen before l = (codes "1" ∷ [], (_, ready verb.Gen before (codes "1") [] _ refl l refl))

-- an option and its value before a completion
after_option : (v : Verb) (before : List (List ℕ)) (w x : List ℕ) (words : List (List ℕ)) → is_option w ≡ true → may_come v before w ≡ true
    → fits w x ≡ true → Completes v (before ++ w ∷ x ∷ []) words → Completes v before (w ∷ x ∷ words)
after_option v before w x words o m f (more, (c, e)) = (more, (c, read-further v before w x (words ++ more) o m f ∙ ap (later 2) e))

with_option : (v : Verb) (before : List (List ℕ)) (w x : List ℕ) → is_option w ≡ true → may_come v before w ≡ true
    → fits w x ≡ true → lacks v (before ++ w ∷ x ∷ []) ≡ false → Completes v before []
with_option v before w x o m f l =
    let c = after_option v before w x [] o m f (completes-plain v (before ++ w ∷ x ∷ []) l) in (w ∷ x ∷ c.0, c.1)

completes-lacking : (v : Verb) (before : List (List ℕ)) → IsPaired before → lacks v before ≡ true → Completes v before []
completes-lacking verb.Check before p l =
    with_option verb.Check before (codes "--proof") (codes "a") refl l refl (ap not (is_given-last (codes "--proof") (codes "a") before p))
completes-lacking verb.Run before p l =
    with_option verb.Run before (codes "--steps") (codes "1") refl l refl (ap not (is_given-last (codes "--steps") (codes "1") before p))
completes-lacking verb.Exec before p l =
    with_option verb.Exec before (codes "--steps") (codes "1") refl l refl (ap not (is_given-last (codes "--steps") (codes "1") before p))
completes-lacking verb.Link before p l = absurd (cc)
completes-lacking verb.Disasm before p l = absurd (cc)
completes-lacking verb.Conditions before p l = absurd (cc)
completes-lacking verb.Gen before p l = absurd (cc)

-- some command begins with any options
completes : (v : Verb) (before : List (List ℕ)) → IsPaired before → Completes v before []
completes v before p = by (cases_Bool (lacks v before))
  where
    by : (lacks v before ≡ true) ⊎ (lacks v before ≡ false) → Completes v before []
    by (inl l) = completes-lacking v before p l
    by (inr l) = completes-plain v before l

-- a value that an option may have
sample : List ℕ → List ℕ
sample w = if bytes_eq w (codes "--import") then codes "a=1" else (if bytes_eq w (codes "--block") then codes "1,1" else codes "1")

fits-sample : (w : List ℕ) → fits w (sample w) ≡ true
unfolding sample fixed_word fixed_words reserved_words marks
fits-sample w = by (bytes_eq w (codes "--import")) (bytes_eq w (codes "--block")) (names_file w)
  where
    by : (a b c : Bool) →
        (let x : List ℕ = if a then codes "a=1" else (if b then codes "1,1" else codes "1") in
        if a then is_some (import_of x) else (if b then is_some (block_of x) else (if c then true else is_some (number_of x)))) ≡ true
    by true b c = refl
    by false true c = refl
    by false false true = refl
    by false false false = refl

completes-value : (v : Verb) (before : List (List ℕ)) (w : List ℕ) → IsPaired before → is_option w ≡ true → may_come v before w ≡ true
    → Completes v before (w ∷ [])
completes-value v before w p o m =
    let c = after_option v before w (sample w) [] o m (fits-sample w)
    (completes v (before ++ w ∷ sample w ∷ []) (paired-two before w (sample w) p)) in
    (sample w ∷ c.0, c.1)

-- plain words up to the first wrong one begin a command
plain-begins : (v : Verb) (before ws : List (List ℕ)) (i : ℕ) → IsPaired before → lacks v before ≡ false → IsPlain ws → read_plain v before ws ≡ Err i
    → Completes v before (take i ws)
plain-begins v before ws i p l b e = by v ws i p l b e
  where
    none : (v : Verb) (ws : List (List ℕ)) (i : ℕ) → ◌≡◌ {A = Result Command ℕ} (Err 0) (Err i) → Completes v before (take i ws)
    none v ws i e = let same : 0 ≡ i = cc in subst (λ n. Completes v before (take n ws)) same (completes v before p)

    one : (v : Verb) (w : List ℕ) (ws : List (List ℕ)) (i : ℕ) → ◌≡◌ {A = Result Command ℕ} (Err 1) (Err i) → Completes v before (w ∷ [])
        → Completes v before (take i (w ∷ ws))
    one v w ws i e c = let same : 1 ≡ i = cc in subst (λ n. Completes v before (take n (w ∷ ws))) same c

    two : (v : Verb) (w x : List ℕ) (ws : List (List ℕ)) (i : ℕ) → ◌≡◌ {A = Result Command ℕ} (Err 2) (Err i) → Completes v before (w ∷ x ∷ [])
        → Completes v before (take i (w ∷ x ∷ ws))
    two v w x ws i e c = let same : 2 ≡ i = cc in subst (λ n. Completes v before (take n (w ∷ x ∷ ws))) same c

    by_size : (k : List ℕ) (rest : List (List ℕ)) (i : ℕ) → lacks verb.Gen before ≡ false → is_option k ≡ false
        → read_plain verb.Gen before (k ∷ rest) ≡ Err i → ((n : ℕ) × (size_of k ≡ Some n)) ⊎ (size_of k ≡ None) → Completes verb.Gen before (take i (k ∷ rest))
    by_size k rest i l b e (inr s) = none verb.Gen (k ∷ rest) i (sym (gen-none before k rest s) ∙ e)
    by_size k [] i l b e (inl s) = let f : Ok (command.Gen s.0) ≡ Err i = sym (gen-one before k s.0 s.1) ∙ e in absurd (cc)
    by_size k (x ∷ rest) i l b e (inl s) =
        one verb.Gen k (x ∷ rest) i (sym (gen-more before k x rest s.0 s.1) ∙ e)
        ([], (command.Gen s.0, ready verb.Gen before k [] (command.Gen s.0) b l (gen-one before k s.0 s.1)))

    by : (v : Verb) (ws : List (List ℕ)) (i : ℕ) → IsPaired before → lacks v before ≡ false → IsPlain ws → read_plain v before ws ≡ Err i
        → Completes v before (take i ws)
    by verb.Link [] i p l b e = none verb.Link [] i e
    by verb.Link (a ∷ []) i p l b e = one verb.Link a [] i e (codes "a" ∷ [], (_, ready verb.Link before a (codes "a" ∷ []) _ b l refl))
    by verb.Link (a ∷ c ∷ rest) i p l b e = absurd (cc)
    by verb.Check [] i p l b e = none verb.Check [] i e
    by verb.Check (a ∷ rest) i p l b e = absurd (cc)
    by verb.Run [] i p l b e = none verb.Run [] i e
    by verb.Run (a ∷ []) i p l b e = one verb.Run a [] i e (codes "a" ∷ [], (_, ready verb.Run before a (codes "a" ∷ []) _ b l refl))
    by verb.Run (a ∷ c ∷ rest) i p l b e = absurd (cc)
    by verb.Exec [] i p l b e = none verb.Exec [] i e
    by verb.Exec (a ∷ []) i p l b e = one verb.Exec a [] i e (codes "a" ∷ [], (_, ready verb.Exec before a (codes "a" ∷ []) _ b l refl))
    by verb.Exec (a ∷ c ∷ []) i p l b e = absurd (cc)
    by verb.Exec (a ∷ c ∷ d ∷ rest) i p l b e = two verb.Exec a c (d ∷ rest) i e ([], (_, ready verb.Exec before a (c ∷ []) _ b l refl))
    by verb.Disasm [] i p l b e = none verb.Disasm [] i e
    by verb.Disasm (a ∷ []) i p l b e = absurd (cc)
    by verb.Disasm (a ∷ c ∷ rest) i p l b e = one verb.Disasm a (c ∷ rest) i e ([], (_, ready verb.Disasm before a [] _ b l refl))
    by verb.Conditions [] i p l b e = none verb.Conditions [] i e
    by verb.Conditions (a ∷ rest) i p l b e = absurd (cc)
    by verb.Gen [] i p l b e = none verb.Gen [] i e
    by verb.Gen (k ∷ rest) i p l b e = by_size k rest i l b e (maybe (size_of k))

at_first : (v : Verb) (before ws : List (List ℕ)) (i : ℕ) → IsPaired before → ◌≡◌ {A = Result Command ℕ} (Err 0) (Err i) → Completes v before (take i ws)
at_first v before ws i p e = let same : 0 ≡ i = cc in subst (λ n. Completes v before (take n ws)) same (completes v before p)

at_second : (v : Verb) (before : List (List ℕ)) (w : List ℕ) (ws : List (List ℕ)) (i : ℕ) → ◌≡◌ {A = Result Command ℕ} (Err 1) (Err i)
    → Completes v before (w ∷ []) → Completes v before (take i (w ∷ ws))
at_second v before w ws i e c = let same : 1 ≡ i = cc in subst (λ n. Completes v before (take n (w ∷ ws))) same c

files-begin : (v : Verb) (before ws : List (List ℕ)) (i : ℕ) → IsPaired before → IsPlain ws → read_files v before ws ≡ Err i
    → Completes v before (take i ws)
files-begin v before ws i p b e = by (cases_Bool (lacks v before))
  where
    by : (lacks v before ≡ true) ⊎ (lacks v before ≡ false) → Completes v before (take i ws)
    by (inl l) = at_first v before ws i p (sym (ap (λ c. if c then Err 0 else read_plain v before ws) l) ∙ e)
    by (inr l) = plain-begins v before ws i p l b (sym (ap (λ c. if c then Err 0 else read_plain v before ws) l) ∙ e)

-- the words before the first wrong one begin a command
pub begins : (v : Verb) (before words : List (List ℕ)) → Read v before words → (i : ℕ) → IsPaired before → read_options v before words ≡ Err i
    → Completes v before (take i words)
begins v before words (ends _) i p e = files-begin v before [] i p tt (sym (read-nothing v before) ∙ e)
begins v before words (plain _ w ws o) i p e = files-begin v before (w ∷ ws) i p o (sym (read-plain v before w ws o) ∙ e)
begins v before words (refused _ w ws o m) i p e = at_first v before (w ∷ ws) i p (sym (read-refused v before w ws o m) ∙ e)
begins v before words (alone _ w o m) i p e =
    at_second v before w [] i (sym (read-open v before w o m) ∙ e) (completes-value v before w p o m)
begins v before words (unfit _ w x rest o m f) i p e =
    at_second v before w (x ∷ rest) i (sym (read-unfit v before w x rest o m f) ∙ e) (completes-value v before w p o m)
begins v before words (given _ w x rest o m f further) i p e =
    let inner = later-Err 2 (read_options v (before ++ w ∷ x ∷ []) rest) i (sym (read-further v before w x rest o m f) ∙ e) in
    let j : ℕ = inner.0 in
    let two : suc (suc j) ≡ i = two_more j i inner.1.1 in
    subst (λ n. Completes v before (take n (w ∷ x ∷ rest))) two
    (after_option v before w x (take j rest) o m f
    (begins v (before ++ w ∷ x ∷ []) rest further j (paired-two before w x p) inner.1.0))

at_most : (k i n : ℕ) → ◌≡◌ {A = Result Command ℕ} (Err k) (Err i) → k ≤ n → i ≤ n
at_most k i n e l = let same : k ≡ i = cc in omega arith

-- how many plain words are lawful
pub lawful-within : (v : Verb) (ws : List (List ℕ)) → lawful_plain v ws ≤ length ws
lawful-within verb.Link [] = omega arith
lawful-within verb.Link (a ∷ rest) = omega arith
lawful-within verb.Check ws = omega arith
lawful-within verb.Run [] = omega arith
lawful-within verb.Run (a ∷ rest) = omega arith
lawful-within verb.Exec [] = omega arith
lawful-within verb.Exec (a ∷ []) = omega arith
lawful-within verb.Exec (a ∷ b ∷ rest) = omega arith
lawful-within verb.Disasm [] = omega arith
lawful-within verb.Disasm (a ∷ rest) = omega arith
lawful-within verb.Conditions ws = omega arith
lawful-within verb.Gen [] = omega arith
lawful-within verb.Gen (k ∷ rest) = by (is_some (size_of k))
  where
    by : (b : Bool) → (if b then 1 else 0) ≤ length (k ∷ rest)
    by true = omega arith
    by false = omega arith

or_wrong-Err : (o : Option Command) (k i : ℕ) → or_wrong o k ≡ Err i → i ≡ k
or_wrong-Err None k i e = cc
or_wrong-Err (Some c) k i e = absurd (cc)

pub plain-within : (v : Verb) (o ws : List (List ℕ)) (i : ℕ) → read_plain v o ws ≡ Err i → i ≤ length ws
plain-within v o ws i e =
    let same : i ≡ lawful_plain v ws = or_wrong-Err (command_of v o ws) (lawful_plain v ws) i e in
    let lawful : lawful_plain v ws ≤ length ws = lawful-within v ws in
    subst (λ n. n ≤ length ws) (sym same) lawful

files-within : (v : Verb) (o ws : List (List ℕ)) (i : ℕ) → read_files v o ws ≡ Err i → i ≤ length ws
files-within v o ws i e = by (lacks v o) e
  where
    by : (b : Bool) → (if b then Err 0 else read_plain v o ws) ≡ Err i → i ≤ length ws
    by true e = at_most 0 i (length ws) e (omega arith)
    by false e = plain-within v o ws i e

-- the wrong word is one of the words, or comes right after them
pub within : (v : Verb) (before words : List (List ℕ)) → Read v before words → (i : ℕ) → read_options v before words ≡ Err i → i ≤ length words
within v before words (ends _) i e = files-within v before [] i (sym (read-nothing v before) ∙ e)
within v before words (plain _ w ws o) i e = files-within v before (w ∷ ws) i (sym (read-plain v before w ws o) ∙ e)
within v before words (refused _ w ws o m) i e = at_most 0 i (length (w ∷ ws)) (sym (read-refused v before w ws o m) ∙ e) (omega arith)
within v before words (alone _ w o m) i e = at_most 1 i (length (w ∷ [])) (sym (read-open v before w o m) ∙ e) (omega arith)
within v before words (unfit _ w x rest o m f) i e = at_most 1 i (length (w ∷ x ∷ rest)) (sym (read-unfit v before w x rest o m f) ∙ e) (omega arith)
within v before words (given _ w x rest o m f further) i e =
    let inner = later-Err 2 (read_options v (before ++ w ∷ x ∷ []) rest) i (sym (read-further v before w x rest o m f) ∙ e) in
    two_more inner.0 i (length rest) inner.1.1 (within v (before ++ w ∷ x ∷ []) rest further inner.0 inner.1.0)
  where
    two_more : (j i n : ℕ) → i ≡ j + 2 → j ≤ n → i ≤ suc (suc n)
    two_more j i n e l = omega arith

-- what a reading that ends well says of the words
pub record IsReading (v : Verb) (before words : List (List ℕ)) (c : Command) : Type 0 where
  pub options : List (List ℕ)
  pub plain : List (List ℕ)
  pub stands : words ≡ options ++ plain
  pub listed : AreOptions v options
  pub once : IsOnceEach before → IsOnceEach (before ++ options)
  pub needed : lacks v (before ++ options) ≡ false
  pub begins : IsPlain plain
  pub means : command_of v (before ++ options) plain ≡ Some c

pub not_both : (k : ℕ) (c : Command) → ◌≡◌ {A = Result Command ℕ} (Err k) (Ok c) → ⊥
not_both k c e = absurd (cc)

or_wrong-Ok : (o : Option Command) (i : ℕ) (c : Command) → or_wrong o i ≡ Ok c → o ≡ Some c
or_wrong-Ok None i c e = absurd (cc)
or_wrong-Ok (Some d) i c e = cc

files-Ok : (v : Verb) (o ws : List (List ℕ)) (c : Command) → read_files v o ws ≡ Ok c → (lacks v o ≡ false) × (command_of v o ws ≡ Some c)
files-Ok v o ws c e = by (cases_Bool (lacks v o))
  where
    by : (lacks v o ≡ true) ⊎ (lacks v o ≡ false) → (lacks v o ≡ false) × (command_of v o ws ≡ Some c)
    by (inl l) = absurd (not_both 0 c (sym (ap (λ b. if b then Err 0 else read_plain v o ws) l) ∙ e))
    by (inr l) = (l, or_wrong-Ok (command_of v o ws) (lawful_plain v ws) c (sym (ap (λ b. if b then Err 0 else read_plain v o ws) l) ∙ e))

no_options : (v : Verb) (before ws : List (List ℕ)) (c : Command) → IsPlain ws → read_files v before ws ≡ Ok c → IsReading v before ws c
no_options v before ws c b e =
    let both = files-Ok v before ws c e in
    record {
      options = [];
      plain = ws;
      stands = refl;
      listed = tt;
      once = subst (λ o. IsOnceEach before → IsOnceEach o) (sym (append-nil before)) (λ h. h);
      needed = subst (λ o. lacks v o ≡ false) (sym (append-nil before)) both.0;
      begins = b;
      means = subst (λ o. command_of v o ws ≡ Some c) (sym (append-nil before)) both.1;
    }

-- a reading that ends well is one of options and plain words
pub sound : (v : Verb) (before words : List (List ℕ)) → Read v before words → (c : Command) → IsPaired before → read_options v before words ≡ Ok c
    → IsReading v before words c
sound v before words (ends _) c p e = no_options v before [] c tt (sym (read-nothing v before) ∙ e)
sound v before words (plain _ w ws o) c p e = no_options v before (w ∷ ws) c o (sym (read-plain v before w ws o) ∙ e)
sound v before words (refused _ w ws o m) c p e = absurd (not_both 0 c (sym (read-refused v before w ws o m) ∙ e))
sound v before words (alone _ w o m) c p e = absurd (not_both 1 c (sym (read-open v before w o m) ∙ e))
sound v before words (unfit _ w x rest o m f) c p e = absurd (not_both 1 c (sym (read-unfit v before w x rest o m f) ∙ e))
sound v before words (given _ w x rest o m f further) c p e =
    let two : List (List ℕ) = before ++ w ∷ x ∷ [] in
    let r : IsReading v (before ++ w ∷ x ∷ []) rest c =
    sound v (before ++ w ∷ x ∷ []) rest further c (paired-two before w x p)
    (later-Ok 2 (read_options v (before ++ w ∷ x ∷ []) rest) c (sym (read-further v before w x rest o m f) ∙ e)) in
    let whole : (before ++ w ∷ x ∷ []) ++ r.options ≡ before ++ (w ∷ x ∷ r.options) = append_assoc before (w ∷ x ∷ []) r.options in
    record {
      options = w ∷ x ∷ r.options;
      plain = r.plain;
      stands = ap (λ ws. w ∷ x ∷ ws) r.stands;
      listed = (o, (and_parts (takes v w) _ m).0, f, r.listed);
      once = λ h. subst IsOnceEach whole (r.once (once-two v before w x p m h));
      needed = subst (λ z. lacks v z ≡ false) whole r.needed;
      begins = r.begins;
      means = subst (λ z. command_of v z r.plain ≡ Some c) whole r.means;
    }

pub read-plain_words : (v : Verb) (before ws : List (List ℕ)) → IsPlain ws → read_options v before ws ≡ read_files v before ws
read-plain_words v before [] b = read-nothing v before
read-plain_words v before (w ∷ ws) b = read-plain v before w ws b

-- options and plain words are read as their command
pub complete : (v : Verb) (before options ws : List (List ℕ)) (c : Command) → IsPaired before → AreOptions v options
    → IsOnceEach (before ++ options) → lacks v (before ++ options) ≡ false → IsPlain ws → command_of v (before ++ options) ws ≡ Some c
    → read_options v before (options ++ ws) ≡ Ok c
complete v before [] ws c p listed once needed begins means =
    read-plain_words v before ws begins
    ∙ ap (λ b. if b then Err 0 else read_plain v before ws) (subst (λ o. lacks v o ≡ false) (append-nil before) needed)
    ∙ ap (λ r. or_wrong r (lawful_plain v ws)) (subst (λ o. command_of v o ws ≡ Some c) (append-nil before) means)
complete v before (w ∷ []) ws c p listed once needed begins means = absurd listed
complete v before (w ∷ x ∷ rest) ws c p listed once needed begins means =
    let whole : before ++ (w ∷ x ∷ rest) ≡ (before ++ w ∷ x ∷ []) ++ rest = sym (append_assoc before (w ∷ x ∷ []) rest) in
    read-further v before w x (rest ++ ws) listed.0 (once-may_come v before w x rest p listed.1 once) listed.2
    ∙ ap (later 2) (complete v (before ++ w ∷ x ∷ []) rest ws c (paired-two before w x p) listed.3 (subst IsOnceEach whole once)
    (subst (λ o. lacks v o ≡ false) whole needed) begins (subst (λ o. command_of v o ws ≡ Some c) whole means))
