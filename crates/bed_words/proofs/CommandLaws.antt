-- All words of a command: what reading them says of them.
use Rattle.std.proofs.Common.{◌≡◌, ℕ, suc, zero, ◌+◌, ◌<◌, ◌≤◌, ◌⊎◌, inl, inr, Bool, true, false, nat_lt, if◌then◌else◌, List, [], ◌∷◌, ◌++◌, length, take, codes, refl, sym, ap, ◌∙◌, subst, arith, Option, Some, None, Ok, Err, append_assoc}
use Rattle.std.specs.Prelude.{bytes_eq, Result}
use Rattle.std.proofs.lemmas.Bool.Decides.{nat_tests}
use Rattle.std.proofs.lemmas.Slice.Eq.{bytes_eq-Decides}
use Rattle.std.proofs.lemmas.Bool.{cases_Bool}
use Rattle.bed_words.specs.declared.verb.Verb.{Verb}
use Rattle.bed_words.specs.declared.verb.Verb.TheVariants as verb
use Rattle.bed_words.specs.declared.command.Command.{Command}
use Rattle.bed_words.specs.declared.command.Command.TheVariants as command
use Rattle.bed_words.specs.declared.command.CommandError.{CommandError}
use Rattle.bed_words.specs.declared.command.CommandError.TheVariants as error
use Rattle.bed_lang.specs.declared.limit.Which.{Which}
use Rattle.bed_words.specs.Options.{IsOnceEach}
use Rattle.bed_words.specs.Commands.{IsCommand, word_of}
use Rattle.bed_words.specs.Limits.{limit_of}
use Rattle.bed_words.specs.Usage.{Begins, IsUsage, PassesLimit, Answers, OneCommand, OneAnswer, HasAnswer}
use Rattle.bed_words.specs.Reading.{verb_of, later, read_options, read_after, read_words, Gives}
use Rattle.bed_words.proofs.OptionLemmas.{has-required, required-lacks}
use Rattle.bed_words.proofs.ReadingLemmas.{IsReading, read, sound, complete, begins, stays, within, not_both, Completes}

-- the first word of a command names it

verb_of-word : (v : Verb) → verb_of (word_of v) ≡ Some v
verb_of-word verb.Link = refl
verb_of-word verb.Check = refl
verb_of-word verb.Run = refl
verb_of-word verb.Exec = refl
verb_of-word verb.Disasm = refl
verb_of-word verb.Conditions = refl
verb_of-word verb.Gen = refl

chosen : (w : List ℕ) (u v : Verb) (rest : Option Verb) → (if bytes_eq w (word_of u) then Some u else rest) ≡ Some v
    → (w ≡ word_of v) ⊎ (rest ≡ Some v)
chosen w u v rest e = by (cases_Bool (bytes_eq w (word_of u)))
  where
    by : (bytes_eq w (word_of u) ≡ true) ⊎ (bytes_eq w (word_of u) ≡ false) → (w ≡ word_of v) ⊎ (rest ≡ Some v)
    by (inl t) =
        let same : u ≡ v = (let f : Some u ≡ Some v = sym (ap (λ b. if b then Some u else rest) t) ∙ e in cc) in
        inl ((bytes_eq-Decides w (word_of u)).0 t ∙ ap word_of same)
    by (inr f) = inr (sym (ap (λ b. if b then Some u else rest) f) ∙ e)

none_left : (w : List ℕ) (v : Verb) → ◌≡◌ {A = Option Verb} None (Some v) → w ≡ word_of v
none_left w v e = absurd (cc)

or_next : (w : List ℕ) (v : Verb) (rest : Option Verb) → (w ≡ word_of v) ⊎ (rest ≡ Some v) → (rest ≡ Some v → w ≡ word_of v) → w ≡ word_of v
or_next w v rest (inl h) next = h
or_next w v rest (inr h) next = next h

from_choice : (w : List ℕ) (u v : Verb) (rest : Option Verb) → (rest ≡ Some v → w ≡ word_of v)
    → (if bytes_eq w (word_of u) then Some u else rest) ≡ Some v → w ≡ word_of v
from_choice w u v rest next e = or_next w v rest (chosen w u v rest e) next

word-verb : (w : List ℕ) (v : Verb) → verb_of w ≡ Some v → w ≡ word_of v
word-verb w v =
    from_choice w verb.Link v _ (from_choice w verb.Check v _ (from_choice w verb.Run v _ (from_choice w verb.Exec v _
    (from_choice w verb.Disasm v _ (from_choice w verb.Conditions v _ (from_choice w verb.Gen v None (none_left w v)))))))

none_before : IsOnceEach []
none_before name single = omega arith

-- what reads as a command is one
pub reads-sound : (words : List (List ℕ)) (c : Command) → read_words words ≡ Ok c → IsCommand words c
reads-sound [] c e = absurd (not_both 0 c e)
reads-sound (w ∷ rest) c e = by (verb_of w) refl
  where
    of_verb : (v : Verb) → verb_of w ≡ Some v → IsCommand (w ∷ rest) c
    of_verb v named =
        let whole : later 1 (read_options v [] rest) ≡ Ok c = sym (ap (λ o. read_after o rest) named) ∙ e in
        let r : IsReading v [] rest c = sound v [] rest (read v [] rest) c tt (unlater (read_options v [] rest) whole) in
        record {
          verb = v;
          options = r.options;
          plain = r.plain;
          stands = ap (λ f. f ∷ rest) (word-verb w v named) ∙ ap (λ ws. word_of v ∷ ws) r.stands;
          listed = r.listed;
          once = r.once none_before;
          needed = has-required v r.options r.needed;
          begins = r.begins;
          means = r.means;
        }
      where
        unlater : (r : Result Command ℕ) → later 1 r ≡ Ok c → r ≡ Ok c
        unlater (Ok d) e = e
        unlater (Err i) e = absurd (cc)

    by : (o : Option Verb) → verb_of w ≡ o → IsCommand (w ∷ rest) c
    by None named = absurd (not_both 0 c (sym (ap (λ o. read_after o rest) named) ∙ e))
    by (Some v) named = of_verb v named

-- a command reads as itself
pub reads-complete : (words : List (List ℕ)) (c : Command) → IsCommand words c → read_words words ≡ Ok c
reads-complete words c k =
    ap read_words k.stands
    ∙ ap (λ o. read_after o (k.options ++ k.plain)) (verb_of-word k.verb)
    ∙ ap (later 1) (complete k.verb [] k.options k.plain c tt k.listed k.once (required-lacks k.verb k.options k.needed) k.begins k.means)

pub one_command : (words : List (List ℕ)) → OneCommand words
one_command words a b ka kb =
    let same : ◌≡◌ {A = Result Command ℕ} (Ok a) (Ok b) = sym (reads-complete words a ka) ∙ reads-complete words b kb in cc

-- words that read wrong are no command
no_command : (words : List (List ℕ)) (i : ℕ) → read_words words ≡ Err i → (c : Command) → IsCommand words c → ⊥
no_command words i e c k = not_both i c (sym e ∙ reads-complete words c k)

-- a command begins with no words
begins_anything : Begins []
begins_anything = (
  codes "disasm" ∷ codes "a" ∷ [],
  (
    command.Disasm (codes "a"),
    record {
      verb = verb.Disasm;
      options = [];
      plain = codes "a" ∷ [];
      stands = refl;
      listed = tt;
      once = none_before;
      needed = tt;
      begins = refl;
      means = refl;
    },
  ),
)

is_first : (words : List (List ℕ)) (i : ℕ) → ◌≡◌ {A = Result Command ℕ} (Err 0) (Err i) → Begins (take i words)
is_first words i e = let same : 0 ≡ i = cc in subst (λ n. Begins (take n words)) same begins_anything

later-one : (r : Result Command ℕ) (i : ℕ) → later 1 r ≡ Err i → (j : ℕ) × ((r ≡ Err j) × (suc j ≡ i))
later-one (Ok c) i e = absurd (cc)
later-one (Err j) i e = let same : j + 1 ≡ i = cc in (j, (refl, omega arith))

place_of : (i n : ℕ) → i ≤ n → (i ≡ n) ⊎ (i < n)
place_of i n l = either_order (nat_lt i n) refl
  where
    either_order : (b : Bool) → nat_lt i n ≡ b → (i ≡ n) ⊎ (i < n)
    either_order true e = let below : i < n = grind (arith, nat_tests) in inr below
    either_order false e = let same : i ≡ n = grind (arith, nat_tests) in inl same

-- the first word is no command's
no_verb : (w : List ℕ) (rest : List (List ℕ)) (i : ℕ) → verb_of w ≡ None → read_words (w ∷ rest) ≡ Err i → IsUsage (w ∷ rest) i
no_verb w rest i named e = record {
  none = no_command (w ∷ rest) i e;
  before = is_first (w ∷ rest) i first;
  place = inr (small i first, at i first);
}
  where
    first : ◌≡◌ {A = Result Command ℕ} (Err 0) (Err i)
    first = sym (ap (λ o. read_after o rest) named) ∙ e

    small : (i : ℕ) → ◌≡◌ {A = Result Command ℕ} (Err 0) (Err i) → i < length (w ∷ rest)
    small i f = let same : 0 ≡ i = cc in omega arith

    never : Begins (w ∷ []) → ⊥
    never (more, (c, k)) = not_both 0 c (sym (ap (λ o. read_after o more) named) ∙ reads-complete (w ∷ more) c k)

    at : (i : ℕ) → ◌≡◌ {A = Result Command ℕ} (Err 0) (Err i) → Begins (take (i + 1) (w ∷ rest)) → ⊥
    at i f = let same : 0 ≡ i = cc in subst (λ n. Begins (take (n + 1) (w ∷ rest)) → ⊥) same never

-- a later word is wrong
wrong_after : (w : List ℕ) (rest : List (List ℕ)) (v : Verb) (i j : ℕ) → verb_of w ≡ Some v → read_words (w ∷ rest) ≡ Err i
    → read_options v [] rest ≡ Err j → suc j ≡ i → IsUsage (w ∷ rest) i
wrong_after w rest v i j named e inner next = record {
  none = no_command (w ∷ rest) i e;
  before = subst (λ n. Begins (take n (w ∷ rest))) next (opened (begins v [] rest (read v [] rest) j tt inner));
  place = placed (place_of j (length rest) (within v [] rest (read v [] rest) j inner));
}
  where
    opened : Completes v [] (take j rest) → Begins (w ∷ take j rest)
    opened (more, (c, k)) =
        (more, (c, reads-sound (w ∷ (take j rest ++ more)) c (ap (λ o. read_after o (take j rest ++ more)) named ∙ ap (later 1) k)))

    never : j < length rest → Begins (take (suc (suc j)) (w ∷ rest)) → ⊥
    never l (more, (c, k)) =
        not_both (j + 1) c
        (sym (ap (λ o. read_after o (take (suc j) rest ++ more)) named ∙ ap (later 1) (stays v [] rest (read v [] rest) j inner l more))
        ∙ reads-complete (w ∷ (take (suc j) rest ++ more)) c k)

    two_more : (i j : ℕ) → suc j ≡ i → suc (suc j) ≡ i + 1
    two_more i j e = omega arith

    at_end : (i j n : ℕ) → suc j ≡ i → j ≡ n → i ≡ suc n
    at_end i j n e f = omega arith

    inside : (i j n : ℕ) → suc j ≡ i → j < n → i < suc n
    inside i j n e f = omega arith

    placed : (j ≡ length rest) ⊎ (j < length rest)
        → (i ≡ length (w ∷ rest)) ⊎ ((i < length (w ∷ rest)) × (Begins (take (i + 1) (w ∷ rest)) → ⊥))
    placed (inl e) = inl (at_end i j (length rest) next e)
    placed (inr l) =
        inr (inside i j (length rest) next l, subst (λ n. Begins (take n (w ∷ rest)) → ⊥) (two_more i j next) (never l))

-- what reads wrong is wrong at that word
pub reads-wrong : (words : List (List ℕ)) (i : ℕ) → read_words words ≡ Err i → IsUsage words i
reads-wrong [] i e = record {
  none = no_command [] i e;
  before = is_first [] i e;
  place = inl (let same : 0 ≡ i = cc in sym same);
}
reads-wrong (w ∷ rest) i e = by (verb_of w) refl
  where
    by : (o : Option Verb) → verb_of w ≡ o → IsUsage (w ∷ rest) i
    by None named = no_verb w rest i named e
    by (Some v) named =
        let inner = later-one (read_options v [] rest) i (sym (ap (λ o. read_after o rest) named) ∙ e) in
        wrong_after w rest v i inner.0 named e inner.1.0 inner.1.1

-- more words begin with fewer ones
longer : (n i : ℕ) (ws : List (List ℕ)) → n ≤ i → (more : List (List ℕ)) × (take i ws ≡ take n ws ++ more)
longer zero i ws l = (take i ws, refl)
longer (suc n) zero ws l = absurd (omega arith)
longer (suc n) (suc i) [] l = ([], refl)
longer (suc n) (suc i) (w ∷ ws) l = let r = longer n i ws (omega arith) in (r.0, ap (λ z. w ∷ z) r.1)

begins-fewer : (n i : ℕ) (ws : List (List ℕ)) → n ≤ i → Begins (take i ws) → Begins (take n ws)
begins-fewer n i ws l (more, (c, k)) =
    let r = longer n i ws l in
    let whole : take i ws ++ more ≡ take n ws ++ (r.0 ++ more) = ap (λ z. z ++ more) r.1 ∙ append_assoc (take n ws) r.0 more in
    (r.0 ++ more, (c, subst (λ z. IsCommand z c) whole k))

no_less : (words : List (List ℕ)) (i k : ℕ) → IsUsage words i → IsUsage words k → k < i → ⊥
no_less words i k u w l = by (bound u.place) w.place
  where
    bound : (i ≡ length words) ⊎ ((i < length words) × (Begins (take (i + 1) words) → ⊥)) → i ≤ length words
    bound (inl e) = omega arith
    bound (inr e) = let b : i < length words = e.0 in omega arith

    by : i ≤ length words → (k ≡ length words) ⊎ ((k < length words) × (Begins (take (k + 1) words) → ⊥)) → ⊥
    by b (inl e) = omega arith
    by b (inr e) = e.1 (begins-fewer (k + 1) i words (omega arith) u.before)

-- words have at most one first wrong word
pub one_usage : (words : List (List ℕ)) (i k : ℕ) → IsUsage words i → IsUsage words k → i ≡ k
one_usage words i k u w = by (place_of i k (not_more (nat_lt k i) refl))
  where
    not_more : (b : Bool) → nat_lt k i ≡ b → i ≤ k
    not_more true e = let l : k < i = grind (arith, nat_tests) in absurd (no_less words i k u w l)
    not_more false e = grind (arith, nat_tests)

    by : (i ≡ k) ⊎ (i < k) → i ≡ k
    by (inl e) = e
    by (inr l) = absurd (no_less words k i w u l)

same_limit : (a b : Command) (x y : Option Which) → a ≡ b → limit_of a ≡ x → limit_of b ≡ y → x ≡ y
same_limit a b x y e l m = sym l ∙ ap limit_of e ∙ m

no_limit : (w : Which) → ◌≡◌ {A = Option Which} None (Some w) → ⊥
no_limit w e = absurd (cc)

pub one_answer : (words : List (List ℕ)) → OneAnswer words
one_answer words (Ok a) (Ok b) (ka, la) (kb, lb) = ap (λ c. Ok c) (one_command words a b ka kb)
one_answer words (Ok a) (Err (error.Usage i)) (ka, la) u = absurd (u.none a ka)
one_answer words (Ok a) (Err (error.Limit w)) (ka, la) (b, (kb, lb)) =
    absurd (no_limit w (same_limit a b None (Some w) (one_command words a b ka kb) la lb))
one_answer words (Err (error.Usage i)) (Ok b) u (kb, lb) = absurd (u.none b kb)
one_answer words (Err (error.Usage i)) (Err (error.Usage k)) u w = ap (λ n. Err (error.Usage n)) (one_usage words i k u w)
one_answer words (Err (error.Usage i)) (Err (error.Limit w)) u (b, (kb, lb)) = absurd (u.none b kb)
one_answer words (Err (error.Limit w)) (Ok b) (a, (ka, la)) (kb, lb) =
    absurd (no_limit w (same_limit b a None (Some w) (one_command words b a kb ka) lb la))
one_answer words (Err (error.Limit w)) (Err (error.Usage k)) (a, (ka, la)) u = absurd (u.none a ka)
one_answer words (Err (error.Limit w)) (Err (error.Limit z)) (a, (ka, la)) (b, (kb, lb)) =
    let same : ◌≡◌ {A = Option Which} (Some w) (Some z) = same_limit a b (Some w) (Some z) (one_command words a b ka kb) la lb in
    let which : w ≡ z = cc in ap (λ x. Err (error.Limit x)) which
one_answer words (Err error.Memory) b h k = absurd h
one_answer words (Ok a) (Err error.Memory) h k = absurd k
one_answer words (Err (error.Usage i)) (Err error.Memory) h k = absurd k
one_answer words (Err (error.Limit w)) (Err error.Memory) h k = absurd k

pub has_answer : (words : List (List ℕ)) → HasAnswer words
has_answer words = by (read_words words) refl
  where
    by_limit : (c : Command) → IsCommand words c → (o : Option Which) → limit_of c ≡ o → HasAnswer words
    by_limit c k None l = (Ok c, (k, l))
    by_limit c k (Some w) l = (Err (error.Limit w), (c, (k, l)))

    by : (r : Result Command ℕ) → read_words words ≡ r → HasAnswer words
    by (Ok c) e = by_limit c (reads-sound words c e) (limit_of c) refl
    by (Err i) e = (Err (error.Usage i), reads-wrong words i e)

-- an answer to words, or want of memory
abbrev pub AnswersOrNot : List (List ℕ) → Result Command CommandError → Type 0
AnswersOrNot words r = Answers words r ⊎ (r ≡ Err error.Memory)

pub only_answer : (words : List (List ℕ)) (r answer : Result Command CommandError) → AnswersOrNot words r → Answers words answer
    → (r ≡ answer) ⊎ (r ≡ Err error.Memory)
only_answer words r answer (inl h) k = inl (one_answer words r answer h k)
only_answer words r answer (inr e) k = inr e

-- a reading that goes wrong
pub refuses : (words : List (List ℕ)) (e : CommandError) → Gives (read_words words) (Err e) → AnswersOrNot words (Err e)
refuses words (error.Usage i) g = inl (reads-wrong words i g)
refuses words (error.Limit w) g = absurd g
refuses words error.Memory g = inr refl

pub usage_of : (words : List (List ℕ)) (e : CommandError) (i : ℕ) → Gives (read_words words) (Err e)
    → ◌≡◌ {A = Result Command CommandError} (Err e) (Err (error.Usage i)) → IsUsage words i
usage_of words (error.Usage k) i g e = let same : k ≡ i = cc in subst (IsUsage words) same (reads-wrong words k g)
usage_of words (error.Limit w) i g e = absurd g
usage_of words error.Memory i g e = absurd (cc)

pub passes_limit : (words : List (List ℕ)) (c : Command) (w z : Which) → IsCommand words c → limit_of c ≡ Some w
    → ◌≡◌ {A = Result Command CommandError} (Err (error.Limit w)) (Err (error.Limit z)) → PassesLimit words z
passes_limit words c w z k l e = let same : w ≡ z = cc in (c, (k, l ∙ ap (λ x. Some x) same))
