-- The stages and the chains are lawful, and what is read off a passed one.
use Rattle.std.proofs.Common.{◌≡◌, ◌⊎◌, inl, inr, ℕ, ◌+◌, IsTrue, Bool, true, false, nat_lt, List, [], ◌∷◌, map, Option, Some, None, Result, Ok, Err, refl, sym, ◌∙◌, ap, subst, arith, if◌then◌else◌}
use Rattle.std.specs.List.{list_any}
use Rattle.std.proofs.lemmas.Bool.Decides.{nat_tests}
use Rattle.bed_lang.specs.declared.limit.Which.{Which}
use Rattle.bed_lang.specs.declared.limit.Which.TheVariants as which
use Rattle.bed_lang.specs.declared.module.Module.{Module}
use Rattle.bed_names.specs.Resolved.{resolved}
use Rattle.bed_read.specs.declared.whole.ReadError.{ReadError}
use Rattle.bed_read.specs.declared.whole.ReadError.TheVariants as read
use Rattle.bed_read.proofs.TextLaws.{an_answer}
use Rattle.bed_words.specs.declared.command.Command.{Command}
use Rattle.bed_words.specs.declared.command.Command.TheVariants as command
use Rattle.bed_words.specs.declared.command.CommandError.{CommandError}
use Rattle.bed_words.specs.declared.command.CommandError.TheVariants as error
use Rattle.bed_words.specs.declared.command.Job.{Job}
use Rattle.bed_words.specs.Commands.{IsCommand}
use Rattle.bed_words.specs.Limits.{limit_of}
use Rattle.bed_words.specs.Usage.{Answers, IsUsage, PassesLimit}
use Rattle.bed_words.proofs.CommandLaws.{one_answer, one_command, has_answer}
use Rattle.bed_top.specs.Views.{View, view, End, Refusal, refusal_of, refused, Source, source}
use Rattle.bed_top.specs.Stages.{Stage, By, Then, stops, goes, refuses, passes, Lawful, is_refusal}
use Rattle.bed_top.specs.Causes.{is_long, most_functions, word_at, unbuilt_word, Asks, AreModules, FirstRefused, function_count, first_misnamed, unbuilt_file, broken_of}
use Rattle.bed_top.specs.Lines.{memory_line}
use Rattle.bed_top.specs.Work.{wrong_word, past_limit, not_built, broken_promise, unread, rule_of, misnamed_by, misnamed_in, or_refuse, IsCommanded, no_command, passes_limit, is_command, IsAsked, unbuilt, asks, lengths_of, IsRead, not_read, all_read, counted_of, scoped_of, built_of, judged_of, link_end}
use Rattle.bed_top.specs.Chains.{asking, front, linking, Due}
use Rattle.bed_top.specs.Promises.{IsLinkable}
use Rattle.bed_top.proofs.StageLemmas.{by_lawful, then_lawful, apart, inl_same, inr_same, came, ends_one, ends_some}
use Rattle.bed_top.proofs.TextLemmas.{one_list, none_refused, one_refused}
use Rattle.bed_top.specs.declared.status.NameKind.{NameKind}
use Rattle.bed_top.specs.declared.status.Status.{Status}
use Rattle.bed_top.specs.declared.status.Status.TheVariants.{Done, Usage, Limit, NotBuilt, Memory}

-- a refusal made by a choice
or_refused : {X B : Type 0} (f : X → Refusal) → ((x : X) → IsTrue (is_refusal (f x).status)) → (o : Option X) (b : B) (r : Refusal) → inl r ≡ or_refuse f o b → IsTrue (is_refusal r.status)
or_refused f h None b r e = absurd (apart r b e)
or_refused f h (Some x) b r e = subst (λ y. IsTrue (is_refusal y.status)) (sym (inl_same r (f x) e)) (h x)

if_refused : {B : Type 0} (x : Refusal) → IsTrue (is_refusal x.status) → (t : Bool) (b : B) (r : Refusal) → inl r ≡ (if t then inl x else inr b) → IsTrue (is_refusal r.status)
if_refused x h true b r e = subst (λ y. IsTrue (is_refusal y.status)) (sym (inl_same r x e)) h
if_refused x h false b r e = absurd (apart r b e)

-- the words

abbrev outcome_of : Result Command CommandError → Refusal ⊎ Command
outcome_of (Ok c) = inr c
outcome_of (Err (error.Usage i)) = inl (wrong_word i)
outcome_of (Err (error.Limit w)) = inl (past_limit w)
outcome_of (Err error.Memory) = inl (refusal_of Memory memory_line)

answer_of : (v : View) (a : Unit {0}) (r : Refusal ⊎ Command) → IsCommanded v a r → (ans : Result Command CommandError) × Answers v.words ans × (r ≡ outcome_of ans)
answer_of v a r (no_command i h e) = (Err (error.Usage i), h, e)
answer_of v a r (passes_limit w h e) = (Err (error.Limit w), h, e)
answer_of v a r (is_command c h l e) = (Ok c, (h, l), e)

commanded_one : (v : View) (a : Unit {0}) (r s : Refusal ⊎ Command) → IsCommanded v a r → IsCommanded v a s → r ≡ s
commanded_one v a r s h k =
    let x = answer_of v a r h in
    let y = answer_of v a s k in
    x.2 ∙ ap outcome_of (one_answer v.words x.0 y.0 x.1 y.1) ∙ sym y.2

commanded_from : (v : View) (a : Unit {0}) (ans : Result Command CommandError) → Answers v.words ans → (r : Refusal ⊎ Command) × IsCommanded v a r
commanded_from v a (Ok c) h = (inr c, is_command c h.0 h.1 refl)
commanded_from v a (Err (error.Usage i)) h = (inl (wrong_word i), no_command i h refl)
commanded_from v a (Err (error.Limit w)) h = (inl (past_limit w), passes_limit w h refl)
commanded_from v a (Err error.Memory) h = absurd h

commanded_refusal : (v : View) (a : Unit {0}) (x : Refusal) (r : Refusal ⊎ Command) → r ≡ inl x → IsCommanded v a r → IsTrue (is_refusal x.status)
commanded_refusal v a x r is (no_command i h e) = subst (λ (y : Refusal). IsTrue (is_refusal y.status)) (inl_same (wrong_word i) x (sym e ∙ is)) refl
commanded_refusal v a x r is (passes_limit w h e) = subst (λ (y : Refusal). IsTrue (is_refusal y.status)) (inl_same (past_limit w) x (sym e ∙ is)) refl
commanded_refusal v a x r is (is_command c h l e) = absurd (apart x c (sym is ∙ e))

commanded_lawful : Lawful IsCommanded
commanded_lawful = record {
  one = commanded_one;
  some = λ v a. let h = has_answer v.words in commanded_from v a h.0 h.1;
  refusal = λ v a x h. commanded_refusal v a x (inl x) refl h;
}

none_some : {A : Type 0} (o : Option A) (x : A) → o ≡ None → o ≡ Some x → ⊥
none_some {A} o x none some = let no : ◌≡◌ {A = Option A} None (Some x) = sym none ∙ some in absurd (cc)

one_some : {A : Type 0} (o : Option A) (x y : A) → o ≡ Some x → o ≡ Some y → x ≡ y
one_some {A} o x y a b = let same : ◌≡◌ {A = Option A} (Some x) (Some y) = sym a ∙ b in cc

same_link : (job other : Job) → command.Link job ≡ command.Link other → job ≡ other
same_link job other e = cc

asked_one : (v : View) (c : Command) (r s : Refusal ⊎ Job) → IsAsked v c r → IsAsked v c s → r ≡ s
asked_one v c r s (unbuilt what a e) (unbuilt other b f) = e ∙ ap (λ (w : List ℕ). inl (not_built w)) (one_some (unbuilt_word v.words c) what other a b) ∙ sym f
asked_one v c r s (unbuilt what a e) (asks job is b f) = absurd (none_some (unbuilt_word v.words c) what b a)
asked_one v c r s (asks job is b f) (unbuilt what a e) = absurd (none_some (unbuilt_word v.words c) what b a)
asked_one v c r s (asks job is b f) (asks other also d g) = f ∙ ap (λ (j : Job). inr j) (same_link job other (sym is ∙ also)) ∙ sym g

asked_link : (v : View) (job : Job) (o : Option (List ℕ)) → unbuilt_word v.words (command.Link job) ≡ o → (r : Refusal ⊎ Job) × IsAsked v (command.Link job) r
asked_link v job None e = (inr job, asks job refl e refl)
asked_link v job (Some what) e = (inl (not_built what), unbuilt what e refl)

asked_some : (v : View) (c : Command) → (r : Refusal ⊎ Job) × IsAsked v c r
asked_some v (command.Link job) = asked_link v job (unbuilt_word v.words (command.Link job)) refl
asked_some v (command.Check job) = (inl (not_built (word_at v.words 0)), unbuilt (word_at v.words 0) refl refl)
asked_some v (command.Run job start) = (inl (not_built (word_at v.words 0)), unbuilt (word_at v.words 0) refl refl)
asked_some v (command.Exec image start) = (inl (not_built (word_at v.words 0)), unbuilt (word_at v.words 0) refl refl)
asked_some v (command.Disasm image) = (inl (not_built (word_at v.words 0)), unbuilt (word_at v.words 0) refl refl)
asked_some v (command.Conditions job) = (inl (not_built (word_at v.words 0)), unbuilt (word_at v.words 0) refl refl)
asked_some v (command.Gen k) = (inl (not_built (word_at v.words 0)), unbuilt (word_at v.words 0) refl refl)

asked_refusal : (v : View) (c : Command) (x : Refusal) (r : Refusal ⊎ Job) → r ≡ inl x → IsAsked v c r → IsTrue (is_refusal x.status)
asked_refusal v c x r is (unbuilt what h e) = subst (λ (y : Refusal). IsTrue (is_refusal y.status)) (inl_same (not_built what) x (sym e ∙ is)) refl
asked_refusal v c x r is (asks job h k e) = absurd (apart x job (sym is ∙ e))

asked_lawful : Lawful IsAsked
asked_lawful = record { one = asked_one; some = asked_some; refusal = λ v c x h. asked_refusal v c x (inl x) refl h }

-- the reader

read_one : (v : View) (job : Job) (r s : Refusal ⊎ Source) → IsRead v job r → IsRead v job s → r ≡ s
read_one v job r s (not_read file text e a i) (not_read other words f b j) =
    let one = one_refused 0 v.texts file other text words e f a b in
    i ∙ ap (λ (k : ℕ). inl (unread k (word_at job.modules k) text e)) one.0 ∙ ap (λ (w : List ℕ). inl (unread other (word_at job.modules other) w e)) one.1
    ∙ ap (λ (d : ReadError). inl (unread other (word_at job.modules other) words d)) one.2 ∙ sym j
read_one v job r s (not_read file text e a i) (all_read ms are j) = absurd (none_refused 0 v.texts ms file text e are a)
read_one v job r s (all_read ms are j) (not_read file text e a i) = absurd (none_refused 0 v.texts ms file text e are a)
read_one v job r s (all_read ms are i) (all_read ns also j) = i ∙ ap (λ (xs : List Module). inr (source job xs)) (one_list v.texts ms ns are also) ∙ sym j

-- texts are those of modules, or one is the first that isn't
some_read : (k : ℕ) (texts : List (List ℕ)) → ((ms : List Module) × AreModules texts ms) ⊎ ((file : ℕ) × (text : List ℕ) × (e : ReadError) × FirstRefused k texts file text e)
some_read k [] = inl ([], tt)
some_read k (t ∷ ts) =
    elim (an_answer t) [
      | inl m ↦ elim (some_read (k + 1) ts) [ inl ms ↦ inl (m.0 ∷ ms.0, (m.1, ms.1)) | inr r ↦ inr (r.0, r.1, r.2, inr (m.0, m.1, r.3)) ]
      | inr r ↦ inr (k, t, r.0, inl (refl, refl, r.1, r.2))
    ]

read_some : (v : View) (job : Job) → (r : Refusal ⊎ Source) × IsRead v job r
read_some v job =
    elim (some_read 0 v.texts) [
      | inl ms ↦ (inr (source job ms.0), all_read ms.0 ms.1 refl)
      | inr r ↦ (inl (unread r.0 (word_at job.modules r.0) r.1 r.2), not_read r.0 r.1 r.2 r.3 refl)
    ]

unread_refusal : (file : ℕ) (called text : List ℕ) (e : ReadError) → IsTrue (is_refusal (unread file called text e).status)
unread_refusal file called text (read.BadByte at) = refl
unread_refusal file called text (read.Unexpected at) = refl
unread_refusal file called text (read.Number at) = refl
unread_refusal file called text (read.Limit w at) = refl
unread_refusal file called text read.Memory = refl

read_refusal : (v : View) (job : Job) (x : Refusal) (r : Refusal ⊎ Source) → r ≡ inl x → IsRead v job r → IsTrue (is_refusal x.status)
read_refusal v job x r is (not_read file text e h i) =
    subst (λ (y : Refusal). IsTrue (is_refusal y.status)) (inl_same (unread file (word_at job.modules file) text e) x (sym i ∙ is)) (unread_refusal file (word_at job.modules file) text e)
read_refusal v job x r is (all_read ms are i) = absurd (apart x (source job ms) (sym is ∙ i))

read_lawful : Lawful IsRead
read_lawful = record { one = read_one; some = read_some; refusal = λ v job x h. read_refusal v job x (inl x) refl h }

-- the stages that functions answer: one line each

lengths_lawful : Lawful (By lengths_of)
lengths_lawful = by_lawful _ (λ v a r e. if_refused _ refl (list_any is_long v.texts) a r e)

counted_lawful : Lawful (By counted_of)
counted_lawful = by_lawful _ (λ v a r e. if_refused _ refl (nat_lt most_functions (function_count a.modules)) a r e)

rule_refusal : (file : ℕ) (called text : List ℕ) (o : Option (ℕ × NameKind)) → IsTrue (is_refusal (misnamed_by file called text o).status)
rule_refusal file called text None = refl
rule_refusal file called text (Some broken) = refl

scoped_lawful : Lawful (By scoped_of)
scoped_lawful = by_lawful _ (λ v a r e. or_refused (misnamed_in v a.job)
    (λ x. rule_refusal x.0 (word_at a.job.modules x.0) (word_at v.texts x.0) (rule_of x.1)) (first_misnamed 0 a.modules) (source a.job (map resolved a.modules)) r e)

built_lawful : Lawful (By built_of)
built_lawful = by_lawful _ (λ v a r e. or_refused not_built (λ x. refl) (unbuilt_file a.job.modules a.modules) a r e)

judged_lawful : Lawful (By judged_of)
judged_lawful = by_lawful _ (λ v a r e. or_refused broken_promise (λ x. refl) (broken_of a.modules) a r e)

-- the chains

pub asking_lawful : Lawful asking
asking_lawful = then_lawful _ _ commanded_lawful asked_lawful

pub front_lawful : Lawful front
front_lawful = then_lawful _ _ lengths_lawful (then_lawful _ _ read_lawful (then_lawful _ _ counted_lawful scoped_lawful))

pub linking_lawful : Lawful linking
linking_lawful = then_lawful _ _ front_lawful (then_lawful _ _ built_lawful judged_lawful)

pub whole_lawful : Lawful (Then asking linking)
whole_lawful = then_lawful asking linking asking_lawful linking_lawful

-- one end is due, and there is one
pub due_one : (v : View) (e f : End) → Due v e → Due v f → e ≡ f
due_one v e f h k = ends_one (Then asking linking) tt link_end whole_lawful v e f h k

pub due_some : (v : View) → (e : End) × Due v e
due_some v = ends_some (Then asking linking) tt link_end whole_lawful v

-- What came through.

commanded_parts : (v : View) (a : Unit {0}) (r : Refusal ⊎ Command) (c : Command) → r ≡ inr c → IsCommanded v a r → IsCommand v.words c × (limit_of c ≡ None)
commanded_parts v a r c is (no_command i h e) = absurd (apart (wrong_word i) c (sym e ∙ is))
commanded_parts v a r c is (passes_limit w h e) = absurd (apart (past_limit w) c (sym e ∙ is))
commanded_parts v a r c is (is_command d h l e) =
    let same : d ≡ c = inr_same d c (sym e ∙ is) in (subst (IsCommand v.words) same h, ap limit_of (sym same) ∙ l)

asked_parts : (v : View) (c : Command) (r : Refusal ⊎ Job) (job : Job) → r ≡ inr job → IsAsked v c r → (c ≡ command.Link job) × (unbuilt_word v.words c ≡ None)
asked_parts v c r job is (unbuilt what h e) = absurd (apart (not_built what) job (sym e ∙ is))
asked_parts v c r job is (asks other h k e) = (h ∙ ap (λ (j : Job). command.Link j) (inr_same other job (sym e ∙ is)), k)

pub asked_for : (v : View) (job : Job) → asking v tt (inr job) → Asks v.words job
asked_for v job h =
    let (c, first, second) = came IsCommanded IsAsked v tt job h in
    let k = commanded_parts v tt (inr c) c refl first in
    let l = asked_parts v c (inr job) job refl second in
    record {
      stands = subst (IsCommand v.words) l.0 k.0;
      within = ap limit_of (sym l.0) ∙ k.1;
      built = ap (unbuilt_word v.words) (sym l.0) ∙ l.1;
    }

pub asks_for : (words texts : List (List ℕ)) (job : Job) → Asks words job → asking (view words texts) tt (inr job)
asks_for words texts job a = goes (command.Link job) (is_command (command.Link job) a.stands a.within refl) (asks job refl a.built refl)

through : {X B : Type 0} (f : X → Refusal) (o : Option X) (b c : B) → inr c ≡ or_refuse f o b → (o ≡ None) × (c ≡ b)
through f None b c e = (refl, inr_same c b e)
through f (Some x) b c e = absurd (apart (f x) c (sym e))

through_if : {B : Type 0} (x : Refusal) (t : Bool) (b c : B) → inr c ≡ (if t then inl x else inr b) → (t ≡ false) × (c ≡ b)
through_if x true b c e = absurd (apart x c (sym e))
through_if x false b c e = (refl, inr_same c b e)

read_parts : (v : View) (job : Job) (r : Refusal ⊎ Source) (s : Source) → r ≡ inr s → IsRead v job r → (ms : List Module) × AreModules v.texts ms × (s ≡ source job ms)
read_parts v job r s is (not_read file text e h i) = absurd (apart (unread file (word_at job.modules file) text e) s (sym i ∙ is))
read_parts v job r s is (all_read ms are i) = (ms, are, inr_same s (source job ms) (sym is ∙ i))

-- the modules of a passed front
record IsFront (v : View) (job : Job) (s : Source) : Type 0 where
  ms : List Module
  short : list_any is_long v.texts ≡ false
  are : AreModules v.texts ms
  few : nat_lt most_functions (function_count ms) ≡ false
  scoped : first_misnamed 0 ms ≡ None
  is : s ≡ source job (map resolved ms)

front_from : (v : View) (job : Job) (s b c : Source) (other : Job) (ms : List Module) → inr other ≡ lengths_of v job → AreModules v.texts ms → b ≡ source other ms
    → inr c ≡ counted_of v b → inr s ≡ scoped_of v c → IsFront v job s
front_from v job s b c other ms e are is f g =
    let l = through_if (past_limit which.Text) (list_any is_long v.texts) job other e in
    let here : b ≡ source job ms = is ∙ ap (λ (j : Job). source j ms) l.1 in
    let m = through_if (past_limit which.Functions) (nat_lt most_functions (function_count b.modules)) b c f in
    let there : c ≡ source job ms = m.1 ∙ here in
    let n = through (misnamed_in v c.job) (first_misnamed 0 c.modules) (source c.job (map resolved c.modules)) s g in
    record {
      ms = ms;
      short = l.0;
      are = are;
      few = ap (λ (x : Source). nat_lt most_functions (function_count x.modules)) (sym here) ∙ m.0;
      scoped = ap (λ (x : Source). first_misnamed 0 x.modules) (sym there) ∙ n.0;
      is = n.1 ∙ ap (λ (x : Source). source x.job (map resolved x.modules)) there;
    }

front_parts : (v : View) (job : Job) (s : Source) → front v job (inr s) → IsFront v job s
front_parts v job s h =
    let (other, e, rest) = came (By lengths_of) (Then IsRead (Then (By counted_of) (By scoped_of))) v job s h in
    let (b, k, more) = came IsRead (Then (By counted_of) (By scoped_of)) v other s rest in
    let (c, f, g) = came (By counted_of) (By scoped_of) v b s more in
    let (ms, are, is) = read_parts v other (inr b) b refl k in
    front_from v job s b c other ms e are is f g

-- modules came through the whole chain
pub record IsLinked (v : View) (s : Source) : Type 0 where
  pub asked : Asks v.words s.job
  pub modules : List Module
  pub linkable : IsLinkable s.job v.texts modules
  pub is : s.modules ≡ map resolved modules

linked_from : (v : View) (job : Job) (s b c : Source) → Asks v.words job → IsFront v job b → inr c ≡ built_of v b → inr s ≡ judged_of v c → IsLinked v s
linked_from v job s b c asked f e g =
    let l = through not_built (unbuilt_file b.job.modules b.modules) b c e in
    let m = through broken_promise (broken_of c.modules) c s g in
    let same : s ≡ source job (map resolved f.ms) = m.1 ∙ l.1 ∙ f.is in
    let of_job : s.job ≡ job = ap (λ (x : Source). x.job) same in
    record {
      asked = subst (Asks v.words) (sym of_job) asked;
      modules = f.ms;
      linkable = subst (λ (j : Job). IsLinkable j v.texts f.ms) (sym of_job) (record {
        fits = f.short;
        read = f.are;
        few = let less : nat_lt most_functions (function_count f.ms) ≡ false = f.few in grind (arith, nat_tests);
        scoped = f.scoped;
        built = ap (λ (x : Source). unbuilt_file x.job.modules x.modules) (sym f.is) ∙ l.0;
        kept = ap (λ (x : Source). broken_of x.modules) (sym (l.1 ∙ f.is)) ∙ m.0;
      });
      is = ap (λ (x : Source). x.modules) same;
    }

pub linked_parts : (v : View) (s : Source) → Then asking linking v tt (inr s) → IsLinked v s
linked_parts v s h =
    let (job, first, second) = came asking linking v tt s h in
    let (b, k, rest) = came front (Then (By built_of) (By judged_of)) v job s second in
    let (c, e, g) = came (By built_of) (By judged_of) v b s rest in
    linked_from v job s b c (asked_for v job first) (front_parts v job b k) e g

-- and modules that can be linked come through
pub linkable_passes : (v : View) (job : Job) (ms : List Module) → Asks v.words job → IsLinkable job v.texts ms
    → Then asking linking v tt (inr (source job (map resolved ms)))
linkable_passes v job ms asked h =
    let less : nat_lt most_functions (function_count ms) ≡ false = let few = h.few in grind (arith, nat_tests) in
    let done : Source = source job (map resolved ms) in
    goes job (asks_for v.words v.texts job asked) (goes done
    (goes job (ap (λ b. if b then inl (past_limit which.Text) else inr job) (sym h.fits))
    (goes (source job ms) (all_read ms h.read refl)
    (goes (source job ms) (ap (λ b. if b then inl (past_limit which.Functions) else inr (source job ms)) (sym less))
    (ap (λ o. or_refuse (misnamed_in v job) o done) (sym h.scoped)))))
    (goes done (ap (λ o. or_refuse not_built o done) (sym h.built)) (ap (λ o. or_refuse broken_promise o done) (sym h.kept))))

-- A refusal of the texts never has the status of wrong words.

abbrev is_usage : Status → Bool
is_usage (Usage word) = true
is_usage _ = false

abbrev Refuses : {A B : Type 0} → Stage A B → Type 0
Refuses {A} {B} S = (v : View) (a : A) (x : Refusal) → S v a (inl x) → is_usage x.status ≡ false

then_refuses : {A B C : Type 0} (S : Stage A B) (T : Stage B C) → Refuses S → Refuses T → (v : View) (a : A) (x : Refusal) (r : Refusal ⊎ C) → r ≡ inl x → Then S T v a r
    → is_usage x.status ≡ false
then_refuses S T p q v a x r is (stops y h e) = ap (λ (z : Refusal). is_usage z.status) (inl_same x y (sym is ∙ e)) ∙ p v a y h
then_refuses S T p q v a x r is (goes b h k) = q v b x (subst (λ s. T v b s) is k)

then_refused : {A B C : Type 0} (S : Stage A B) (T : Stage B C) → Refuses S → Refuses T → Refuses (Then S T)
then_refused S T p q = λ v a x h. then_refuses S T p q v a x (inl x) refl h

chosen : {X B : Type 0} (f : X → Refusal) → ((x : X) → is_usage (f x).status ≡ false) → (o : Option X) (b : B) (r : Refusal) → inl r ≡ or_refuse f o b → is_usage r.status ≡ false
chosen f h None b r e = absurd (apart r b e)
chosen f h (Some x) b r e = ap (λ (z : Refusal). is_usage z.status) (inl_same r (f x) e) ∙ h x

tested : {B : Type 0} (x : Refusal) → is_usage x.status ≡ false → (t : Bool) (b : B) (r : Refusal) → inl r ≡ (if t then inl x else inr b) → is_usage r.status ≡ false
tested x h true b r e = ap (λ (z : Refusal). is_usage z.status) (inl_same r x e) ∙ h
tested x h false b r e = absurd (apart r b e)

unread_usage : (file : ℕ) (called text : List ℕ) (e : ReadError) → is_usage (unread file called text e).status ≡ false
unread_usage file called text (read.BadByte at) = refl
unread_usage file called text (read.Unexpected at) = refl
unread_usage file called text (read.Number at) = refl
unread_usage file called text (read.Limit w at) = refl
unread_usage file called text read.Memory = refl

read_usage : (v : View) (job : Job) (x : Refusal) (r : Refusal ⊎ Source) → r ≡ inl x → IsRead v job r → is_usage x.status ≡ false
read_usage v job x r is (not_read file text e h i) =
    ap (λ (z : Refusal). is_usage z.status) (inl_same x (unread file (word_at job.modules file) text e) (sym is ∙ i)) ∙ unread_usage file (word_at job.modules file) text e
read_usage v job x r is (all_read ms are i) = absurd (apart x (source job ms) (sym is ∙ i))

rule_usage : (file : ℕ) (called text : List ℕ) (o : Option (ℕ × NameKind)) → is_usage (misnamed_by file called text o).status ≡ false
rule_usage file called text None = refl
rule_usage file called text (Some broken) = refl

linking_refuses : Refuses linking
linking_refuses = then_refused _ _
    (then_refused (By lengths_of) _ (λ v a r e. tested _ refl (list_any is_long v.texts) a r e)
    (then_refused IsRead _ (λ v job x h. read_usage v job x (inl x) refl h)
    (then_refused (By counted_of) (By scoped_of) (λ v a r e. tested _ refl (nat_lt most_functions (function_count a.modules)) a r e)
    (λ v a r e. chosen (misnamed_in v a.job) (λ x. rule_usage x.0 (word_at a.job.modules x.0) (word_at v.texts x.0) (rule_of x.1)) (first_misnamed 0 a.modules)
    (source a.job (map resolved a.modules)) r e))))
    (then_refused (By built_of) (By judged_of) (λ v a r e. chosen not_built (λ x. refl) (unbuilt_file a.job.modules a.modules) a r e)
    (λ v a r e. chosen broken_promise (λ x. refl) (broken_of a.modules) a r e))

commanded_usage : (v : View) (a : Unit {0}) (x : Refusal) (word : ℕ) (r : Refusal ⊎ Command) → r ≡ inl x → x.status ≡ Usage word → IsCommanded v a r → IsUsage v.words word
commanded_usage v a x word r is status (no_command i h e) =
    let same : Usage i ≡ Usage word = ap (λ (z : Refusal). z.status) (inl_same (wrong_word i) x (sym e ∙ is)) ∙ status in
    let here : i ≡ word = cc in subst (IsUsage v.words) here h
commanded_usage v a x word r is status (passes_limit w h e) =
    let no : Limit w ≡ Usage word = ap (λ (z : Refusal). z.status) (inl_same (past_limit w) x (sym e ∙ is)) ∙ status in absurd (cc)
commanded_usage v a x word r is status (is_command c h l e) = absurd (apart x c (sym is ∙ e))

asked_usage : (v : View) (c : Command) (x : Refusal) (word : ℕ) (r : Refusal ⊎ Job) → r ≡ inl x → x.status ≡ Usage word → IsAsked v c r → ⊥
asked_usage v c x word r is status (unbuilt what h e) =
    let no : NotBuilt what ≡ Usage word = ap (λ (z : Refusal). z.status) (inl_same (not_built what) x (sym e ∙ is)) ∙ status in absurd (cc)
asked_usage v c x word r is status (asks job h k e) = apart x job (sym is ∙ e)

asking_usage : (v : View) (x : Refusal) (word : ℕ) (r : Refusal ⊎ Job) → r ≡ inl x → x.status ≡ Usage word → asking v tt r → IsUsage v.words word
asking_usage v x word r is status (stops y h e) =
    commanded_usage v tt y word (inl y) refl (ap (λ (z : Refusal). z.status) (inl_same y x (sym e ∙ is)) ∙ status) h
asking_usage v x word r is status (goes c h k) = absurd (asked_usage v c x word r is status k)

whole_usage : (v : View) (x : Refusal) (word : ℕ) (r : Refusal ⊎ Source) → r ≡ inl x → x.status ≡ Usage word → Then asking linking v tt r → IsUsage v.words word
whole_usage v x word r is status (stops y h e) =
    asking_usage v y word (inl y) refl (ap (λ (z : Refusal). z.status) (inl_same y x (sym e ∙ is)) ∙ status) h
whole_usage v x word r is status (goes job h k) =
    let no : is_usage x.status ≡ false = linking_refuses v job x (subst (λ s. linking v job s) is k) in
    let yes : is_usage x.status ≡ true = ap is_usage status in absurd (let opposite : true ≡ false = sym yes ∙ no in cc)

pub due_usage : (v : View) (e : End) (word : ℕ) → Due v e → e.status ≡ Usage word → IsUsage v.words word
due_usage v e word (refuses x h is) status = whole_usage v x word (inl x) refl (ap (λ (d : End). d.status) (sym is) ∙ status) h
due_usage v e word (passes s h is) status = absurd (let no : Done ≡ Usage word = ap (λ (d : End). d.status) (sym is) ∙ status in cc)

-- what is due where the words are no command, or pass a limit
pub usage_due : (v : View) (i : ℕ) → IsUsage v.words i → Due v (refused (wrong_word i))
usage_due v i u = refuses (wrong_word i) (stops (wrong_word i) (stops (wrong_word i) (no_command i u refl) refl) refl) refl

pub limit_due : (v : View) (w : Which) → PassesLimit v.words w → Due v (refused (past_limit w))
limit_due v w p = refuses (past_limit w) (stops (past_limit w) (stops (past_limit w) (passes_limit w p refl) refl) refl) refl

-- an end that is due is a refusal without writes, or that of modules that came through
pub data Kind (v : View) (e : End) : Type 0 where
  refusing : is_refusal e.status ≡ true → e.writes ≡ [] → Kind v e
  linking_to : (s : Source) → IsLinked v s → e ≡ link_end v s → Kind v e

pub due_kind : (v : View) (e : End) → Due v e → Kind v e
due_kind v e (refuses x h is) = refusing (ap (λ (d : End). is_refusal d.status) is ∙ whole_lawful.refusal v tt x h) (ap (λ (d : End). d.writes) is)
due_kind v e (passes s h is) = linking_to s (linked_parts v s h) is

-- The texts matter only where none is too long.

asking_texts : (words texts others : List (List ℕ)) (r : Refusal ⊎ Job) → asking (view words texts) tt r → asking (view words others) tt r
asking_texts words texts others r (stops x h e) = stops x (commanded_texts x h) e
  where
    commanded_texts : (x : Refusal) → IsCommanded (view words texts) tt (inl x) → IsCommanded (view words others) tt (inl x)
    commanded_texts x (no_command i u e) = no_command i u e
    commanded_texts x (passes_limit w p e) = passes_limit w p e
    commanded_texts x (is_command c k l e) = is_command c k l e
asking_texts words texts others r (goes c h k) = goes c (commanded_texts c h) (asked_texts k)
  where
    commanded_texts : (c : Command) → IsCommanded (view words texts) tt (inr c) → IsCommanded (view words others) tt (inr c)
    commanded_texts c (no_command i u e) = no_command i u e
    commanded_texts c (passes_limit w p e) = passes_limit w p e
    commanded_texts c (is_command d k l e) = is_command d k l e

    asked_texts : IsAsked (view words texts) c r → IsAsked (view words others) c r
    asked_texts (unbuilt what u e) = unbuilt what u e
    asked_texts (asks job is u e) = asks job is u e

-- texts of which one is too long
pub long_due : (words texts : List (List ℕ)) (job : Job) → Asks words job → list_any is_long texts ≡ true → Due (view words texts) (refused (past_limit which.Text))
long_due words texts job asked long =
    refuses (past_limit which.Text) (goes job (asks_for words texts job asked) (stops (past_limit which.Text)
    (stops (past_limit which.Text) (ap (λ b. if b then inl (past_limit which.Text) else inr job) (sym long)) refl) refl)) refl

-- words that ask for no link
no_link_due : (words texts others : List (List ℕ)) (e : End) → ((job : Job) → Asks words job → ⊥) → Due (view words texts) e → Due (view words others) e
no_link_due words texts others e none (refuses x h is) = refuses x (by_chain h) is
  where
    by_chain : Then asking linking (view words texts) tt (inl x) → Then asking linking (view words others) tt (inl x)
    by_chain (stops y k i) = stops y (asking_texts words texts others (inl y) k) i
    by_chain (goes job k l) = absurd (none job (asked_for (view words texts) job k))
no_link_due words texts others e none (passes s h is) = absurd (none s.job (linked_parts (view words texts) s h).asked)

-- the words ask for a link, or for none
asks_or_not : (words : List (List ℕ)) → ((job : Job) × Asks words job) ⊎ ((job : Job) → Asks words job → ⊥)
asks_or_not words = by_outcome (asking_lawful.some (view words []) tt)
  where
    by_outcome : (r : Refusal ⊎ Job) × asking (view words []) tt r → ((job : Job) × Asks words job) ⊎ ((job : Job) → Asks words job → ⊥)
    by_outcome (inr job, h) = inl (job, asked_for (view words []) job h)
    by_outcome (inl x, h) = inr (λ job asked. apart x job (asking_lawful.one (view words []) tt (inl x) (inr job) h (asks_for words [] job asked)))

link_texts : (words texts others : List (List ℕ)) (job : Job) (e : End) → Asks words job → list_any is_long texts ≡ list_any is_long others
    → (list_any is_long others ≡ false → texts ≡ others) → (b : Bool) → list_any is_long others ≡ b → Due (view words texts) e → Due (view words others) e
link_texts words texts others job e asked long short true t h =
    subst (Due (view words others)) (due_one (view words texts) _ e (long_due words texts job asked (long ∙ t)) h) (long_due words others job asked t)
link_texts words texts others job e asked long short false t h = subst (λ ts. Due (view words ts) e) (short t) h

pub same_due : (words texts others : List (List ℕ)) (e : End) → ((job : Job) → Asks words job → list_any is_long texts ≡ list_any is_long others)
    → ((job : Job) → Asks words job → list_any is_long others ≡ false → texts ≡ others) → Due (view words texts) e → Due (view words others) e
same_due words texts others e long short h =
    elim (asks_or_not words) [
      | inl a ↦ link_texts words texts others a.0 e a.1 (long a.0 a.1) (short a.0 a.1) (list_any is_long others) refl h
      | inr none ↦ no_link_due words texts others e none h
    ]

pub no_other : (words : List (List ℕ)) (job other : Job) → Asks words job → Asks words other → job ≡ other
no_other words job other a b = same_link job other (one_command words (command.Link job) (command.Link other) a.stands b.stands)

-- texts that the words ask for
pub some_texts : (words : List (List ℕ)) (contents : Job → List (List ℕ)) → (texts : List (List ℕ)) × ((job : Job) → Asks words job → texts ≡ contents job)
some_texts words contents =
    elim (asks_or_not words) [
      | inl a ↦ (contents a.0, λ job asked. ap contents (no_other words a.0 job a.1 asked))
      | inr none ↦ ([], λ job asked. absurd (none job asked))
    ]
