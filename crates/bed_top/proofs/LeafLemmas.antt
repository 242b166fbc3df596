-- From what the parts of a stage give to an outcome of it.
use Rattle.std.proofs.Common.{◌≡◌, ◌≢◌, ◌⊎◌, inl, inr, ℕ, ◌+◌, ◌-◌, ◌≤◌, ◌<◌, suc, Bool, true, false, nat_lt, List, [], ◌∷◌, length, take, drop, map, get_or, Some, None, Result, Ok, Err, IfOk, IfErr, Vec, refl, sym, ◌∙◌, ap, subst, arith, if◌then◌else◌}
use Rattle.std.specs.declared.alloc.Global.{Global}
use Rattle.std.specs.List.{list_any}
use Rattle.bed_lang.specs.declared.limit.Which.{Which}
use Rattle.bed_lang.specs.declared.limit.Which.TheVariants as which
use Rattle.bed_lang.specs.declared.module.Module.{Module}
use Rattle.bed_names.specs.InScope.{InScope}
use Rattle.bed_names.specs.Resolved.{resolved}
use Rattle.bed_names.specs.declared.error.NameError.{NameError}
use Rattle.bed_names.specs.declared.error.NameError.TheVariants as name
use Rattle.bed_read.specs.Reading.{IsModule, ReadsModule}
use Rattle.bed_read.specs.declared.whole.ReadError.{ReadError}
use Rattle.bed_read.specs.declared.whole.ReadError.TheVariants as read
use Rattle.bed_words.specs.declared.command.Command.{Command}
use Rattle.bed_words.specs.declared.command.Command.TheVariants as command
use Rattle.bed_words.specs.declared.command.CommandError.{CommandError}
use Rattle.bed_words.specs.declared.command.CommandError.TheVariants as error
use Rattle.bed_words.specs.declared.command.Job.{Job}
use Rattle.bed_words.specs.Commands.{IsCommand}
use Rattle.bed_words.specs.Limits.{limit_of}
use Rattle.bed_words.specs.Usage.{IsUsage, PassesLimit}
use Rattle.bed_top.specs.Views.{View, view, Refusal, source}
use Rattle.bed_top.specs.Stages.{By}
use Rattle.bed_top.specs.Causes.{word_at, unbuilt_word, Asks, unbuilt_file, AreModules, FirstRefused, function_count, first_misnamed, is_long, most_functions}
use Rattle.bed_top.specs.Returns.{module_is_built, broken_condition}
use Rattle.bed_top.specs.Work.{past_limit, not_built, unread, misnamed, misnamed_in, broken_promise, or_refuse, IsCommanded, no_command, passes_limit, is_command, IsAsked, unbuilt, asks, IsRead, not_read, all_read, lengths_of, counted_of, scoped_of, built_of, judged_of}
use Rattle.bed_top.specs.Gives.{texts_of, modules_of, stop_of, IsStop, Gives, as_one, as_read, as_scoped}
use Rattle.bed_top.specs.Outcomes.{IsRefusedFrom, holds_long}
use Rattle.bed_top.proofs.ReadLemmas.{split_first, only_of, as_many_scoped, same_count}
use Rattle.bed_top.specs.declared.line.Line.TheVariants as line
use Rattle.bed_top.specs.declared.status.Status.TheVariants.{No, Limit}
use Rattle.bed_top.specs.declared.plan.Stop.{Stop}
use Rattle.bed_top.specs.declared.plan.Stop.TheVariants.{Refused, Memory}

-- a stage that a function answers
pub by_stop : {A B X : Type 0} (f : View → A → Refusal ⊎ B) (see : X → B) (v : View) (a : A) (r : Refusal) (s : Stop) → IsStop r s → f v a ≡ inl r
    → Gives {X = X} (By f) see v a (Err s)
by_stop f see v a r (Refused st l) is e = record { is = ap inl is ∙ sym e }
by_stop f see v a r Memory is e = record { is = tt }

pub by_pass : {A B X : Type 0} (f : View → A → Refusal ⊎ B) (see : X → B) (v : View) (a : A) (x : X) → f v a ≡ inr (see x) → Gives (By f) see v a (Ok x)
by_pass f see v a x e = record { is = sym e }

-- the words

pub commanded_stop : (words texts : List (List ℕ)) (e : CommandError)
    → ((word : ℕ) → ◌≡◌ {A = Result Command CommandError} (Err e) (Err (error.Usage word)) → IsUsage words word)
    → ((which : Which) → ◌≡◌ {A = Result Command CommandError} (Err e) (Err (error.Limit which)) → PassesLimit words which)
    → (s : Stop) → s ≡ stop_of e → Gives {X = Command} IsCommanded (λ c. c) (view words texts) tt (Err s)
commanded_stop words texts (error.Usage word) wrong past s same =
    subst (λ x. Gives {X = Command} IsCommanded (λ c. c) (view words texts) tt (Err x)) (sym same) (record { is = no_command word (wrong word refl) refl })
commanded_stop words texts (error.Limit which) wrong past s same =
    subst (λ x. Gives {X = Command} IsCommanded (λ c. c) (view words texts) tt (Err x)) (sym same) (record { is = passes_limit which (past which refl) refl })
commanded_stop words texts error.Memory wrong past s same =
    subst (λ x. Gives {X = Command} IsCommanded (λ c. c) (view words texts) tt (Err x)) (sym same) (record { is = tt })

pub commanded_pass : (words texts : List (List ℕ)) (c : Command) → IsCommand words c → limit_of c ≡ None
    → Gives IsCommanded (λ c. c) (view words texts) tt (Ok c)
commanded_pass words texts c stands within = record { is = is_command c stands within refl }

pub asked_stop : (words texts : List (List ℕ)) (c : Command) (what : List ℕ) → unbuilt_word words c ≡ Some what → (s : Stop) → IsStop (not_built what) s
    → Gives {X = Job} IsAsked (λ j. j) (view words texts) c (Err s)
asked_stop words texts c what h (Refused st l) is = record { is = unbuilt what h (ap inl is) }
asked_stop words texts c what h Memory is = record { is = tt }

pub asked_pass : (words texts : List (List ℕ)) (c : Command) (job : Job) → c ≡ command.Link job → unbuilt_word words c ≡ None
    → Gives IsAsked (λ j. j) (view words texts) c (Ok job)
asked_pass words texts c job is none = record { is = asks job is none refl }

-- the texts

pub long_texts : (buffers : List (Vec ℕ Global)) → list_any is_long (texts_of buffers) ≡ list_any holds_long buffers
long_texts [] = refl
long_texts (b ∷ bs) = rw (long_texts bs) refl

is_memory : (e : ReadError) → (e ≡ read.Memory) ⊎ (e ≢ read.Memory)
is_memory (read.BadByte at) = inr (λ no. absurd (cc))
is_memory (read.Unexpected at) = inr (λ no. absurd (cc))
is_memory (read.Number at) = inr (λ no. absurd (cc))
is_memory (read.Limit which at) = inr (λ no. absurd (cc))
is_memory read.Memory = inl refl

is_name_memory : (e : NameError) → (e ≡ name.Memory) ⊎ (e ≢ name.Memory)
is_name_memory (name.Unknown at) = inr (λ no. absurd (cc))
is_name_memory (name.Twice at) = inr (λ no. absurd (cc))
is_name_memory (name.Sort at) = inr (λ no. absurd (cc))
is_name_memory (name.Arity at) = inr (λ no. absurd (cc))
is_name_memory (name.FallsOff at) = inr (λ no. absurd (cc))
is_name_memory (name.MissingJoin at) = inr (λ no. absurd (cc))
is_name_memory (name.Dead at) = inr (λ no. absurd (cc))
is_name_memory (name.StackRoom at needs has) = inr (λ no. absurd (cc))
is_name_memory name.Memory = inl refl

-- the first text is no module
pub refused_first : (k : ℕ) (xs : List (Vec ℕ Global)) (x : Vec ℕ Global) (text : List ℕ) (e : ReadError) → 1 ≤ length xs
    → x ≡ get_or xs 0 x → text ≡ x.items → ReadsModule text (Err e) → IsRefusedFrom k (texts_of xs) (k, e)
refused_first k [] x text e some is of reads = absurd (omega (arith, some))
refused_first k (y ∷ ys) x text e some is of reads = λ other.
    let same : text ≡ y.items = of ∙ ap (λ (z : Vec ℕ Global). z.items) is in
    (text, inl (refl, same, other, subst (λ (t : List ℕ). ReadsModule t (Err e)) same reads))

-- the text of the first that is no module is the one with its number
refused_text : (k : ℕ) (texts : List (List ℕ)) (file : ℕ) (text : List ℕ) (e : ReadError) → FirstRefused k texts file text e
    → (i : ℕ) × (file ≡ k + i) × (text ≡ word_at texts i)
refused_text k [] file text e h = absurd h
refused_text k (t ∷ ts) file text e (inl h) = (0, omega (arith, h.0), h.1)
refused_text k (t ∷ ts) file text e (inr h) = let r = refused_text (k + 1) ts file text e h.2 in (suc r.0, omega (arith, r.1), r.2)

-- a text that is no module
read_refused : (job : Job) (words texts : List (List ℕ)) (file : ℕ) (called text : List ℕ) (e : ReadError) → called ≡ word_at job.modules file
    → text ≡ word_at texts file → (at : List ℕ) × FirstRefused 0 texts file at e → (s : Stop) → IsStop (unread file called text e) s
    → Gives {X = Vec Module Global} IsRead (as_read job) (view words texts) job (Err s)
read_refused job words texts file called text e named is h Memory stop = record { is = tt }
read_refused job words texts file called text e named is h (Refused st l) stop =
    let r = refused_text 0 texts file h.0 e h.1 in
    let same : h.0 ≡ text = r.2 ∙ ap (word_at texts) (let here : r.0 ≡ file = omega (arith, r.1) in here) ∙ sym is in
    record {
      is = not_read file h.0 e h.1 (ap inl (stop ∙ ap (λ (n : List ℕ). unread file n text e) named ∙ ap (λ (t : List ℕ). unread file (word_at job.modules file) t e) (sym same)));
    }

pub read_stop : (job : Job) (words texts : List (List ℕ)) (file : ℕ) (called text : List ℕ) (e : ReadError) → called ≡ word_at job.modules file
    → text ≡ word_at texts file → IsRefusedFrom 0 texts (file, e) → (s : Stop) → IsStop (unread file called text e) s → (e ≡ read.Memory → s ≡ Memory)
    → Gives {X = Vec Module Global} IsRead (as_read job) (view words texts) job (Err s)
read_stop job words texts file called text e named is h s stop short =
    elim (is_memory e) [
      | inl m ↦ subst (λ x. Gives {X = Vec Module Global} IsRead (as_read job) (view words texts) job (Err x)) (sym (short m)) (record { is = tt })
      | inr other ↦ read_refused job words texts file called text e named is (h other) s stop
    ]

pub read_pass : (job : Job) (words texts : List (List ℕ)) (ms : Vec Module Global) → AreModules texts ms.items
    → Gives IsRead (as_read job) (view words texts) job (Ok ms)
read_pass job words texts ms are = record { is = all_read ms.items are refl }

-- a module whose names break a rule
pub scoped_stop : (job : Job) (words texts : List (List ℕ)) (ms : List Module) (file : ℕ) (called text : List ℕ) (e : NameError) → called ≡ word_at job.modules file
    → text ≡ word_at texts file → (e ≢ name.Memory → first_misnamed 0 ms ≡ Some (file, e)) → (s : Stop) → IsStop (misnamed file called text e) s
    → (e ≡ name.Memory → s ≡ Memory) → Gives {X = Vec InScope Global} (By scoped_of) (as_scoped job) (view words texts) (source job ms) (Err s)
scoped_stop job words texts ms file called text e named is h s stop short =
    elim (is_name_memory e) [
      | inl m ↦ subst (λ x. Gives {X = Vec InScope Global} (By scoped_of) (as_scoped job) (view words texts) (source job ms) (Err x)) (sym (short m)) (record { is = tt })
      | inr other ↦ by_stop scoped_of (as_scoped job) (view words texts) (source job ms) (misnamed file called text e) s stop
          (ap (λ o. or_refuse (misnamed_in (view words texts) job) o (source job (map resolved ms))) (h other)
          ∙ ap (λ (n : List ℕ). inl (misnamed file n (word_at texts file) e)) (sym named) ∙ ap (λ (t : List ℕ). inl (misnamed file called t e)) (sym is))
    ]

pub scoped_pass : (job : Job) (words texts : List (List ℕ)) (ms : List Module) (items : Vec InScope Global) → first_misnamed 0 ms ≡ None
    → modules_of items.items ≡ map resolved ms → Gives (By scoped_of) (as_scoped job) (view words texts) (source job ms) (Ok items)
scoped_pass job words texts ms items none same = by_pass scoped_of (as_scoped job) (view words texts) (source job ms) items
    (ap (λ o. or_refuse (misnamed_in (view words texts) job) o (source job (map resolved ms))) none ∙ ap (λ xs. inr (source job xs)) (sym same))

-- what isn't built

pub one_module : (items : List InScope) (x : InScope) (m : Module) → 1 ≤ length items → length items < 2 → x ≡ get_or items 0 x → m ≡ x.module
    → modules_of items ≡ m ∷ []
one_module items x m some less is of = ap modules_of (only_of items x some less is) ∙ ap (λ (z : Module). z ∷ []) (sym of)

pub built_pass : (job : Job) (v : View) (ms : List Module) (m : Module) → ms ≡ m ∷ [] → module_is_built m ≡ true
    → Gives (By built_of) (as_one job) v (source job ms) (Ok m)
built_pass job v ms m one whole = by_pass built_of (as_one job) v (source job ms) m
    (ap (λ xs. built_of v (source job xs)) one
    ∙ ap (λ b. or_refuse not_built (if b then None else Some (word_at job.modules 0)) (source job (m ∷ []))) whole)

pub unbuilt_one : (job : Job) (v : View) (ms : List Module) (m : Module) (what : List ℕ) (s : Stop) → ms ≡ m ∷ [] → module_is_built m ≡ false
    → what ≡ word_at job.modules 0 → IsStop (not_built what) s → Gives {X = Module} (By built_of) (as_one job) v (source job ms) (Err s)
unbuilt_one job v ms m what s one not named stop = by_stop built_of (as_one job) v (source job ms) (not_built what) s stop
    (ap (λ xs. built_of v (source job xs)) one
    ∙ ap (λ b. or_refuse not_built (if b then None else Some (word_at job.modules 0)) (source job (m ∷ []))) not
    ∙ ap (λ (n : List ℕ). inl (not_built n)) (sym named))

several_unbuilt : (job : Job) (items : List InScope) (x : InScope) (number : ℕ) (what : List ℕ) → 2 ≤ length items → x ≡ get_or items 0 x
    → number ≡ (if module_is_built x.module then 1 else 0) → what ≡ word_at job.modules number → unbuilt_file job.modules (modules_of items) ≡ Some what
several_unbuilt job [] x number what several is of named = absurd (omega (arith, several))
several_unbuilt job (y ∷ []) x number what several is of named = absurd (omega (arith, several))
several_unbuilt job (y ∷ z ∷ zs) x number what several is of named =
    ap (λ (w : InScope). if module_is_built w.module then Some (word_at job.modules 1) else Some (word_at job.modules 0)) (sym is)
    ∙ by_test (module_is_built x.module) ∙ ap (λ i. Some (word_at job.modules i)) (sym of) ∙ ap Some (sym named)
  where
    by_test : (b : Bool) → (if b then Some (word_at job.modules 1) else Some (word_at job.modules 0)) ≡ Some (word_at job.modules (if b then 1 else 0))
    by_test true = refl
    by_test false = refl

pub unbuilt_several : (job : Job) (v : View) (items : List InScope) (x : InScope) (number : ℕ) (what : List ℕ) (s : Stop) → 2 ≤ length items
    → x ≡ get_or items 0 x → number ≡ (if module_is_built x.module then 1 else 0) → what ≡ word_at job.modules number → IsStop (not_built what) s
    → Gives {X = Module} (By built_of) (as_one job) v (source job (modules_of items)) (Err s)
unbuilt_several job v items x number what s several is of named stop =
    by_stop built_of (as_one job) v (source job (modules_of items)) (not_built what) s stop
    (ap (λ o. or_refuse not_built o (source job (modules_of items))) (several_unbuilt job items x number what several is of named))

-- What else is known of what a stage gives.

pub link_asks : (words : List (List ℕ)) (c : Command) (r : Result Job Stop) → IsCommand words c → limit_of c ≡ None
    → IfOk r (λ j. (c ≡ command.Link j) × (unbuilt_word words c ≡ None)) → IfOk r (Asks words)
link_asks words c (Ok job) k l h = record { stands = subst (IsCommand words) h.0 k; within = ap limit_of (sym h.0) ∙ l; built = ap (unbuilt_word words) (sym h.0) ∙ h.1 }
link_asks words c (Err e) k l h = tt

pub some_scoped : (ms : List Module) (r : Result (Vec InScope Global) Stop) → 1 ≤ length ms → IfOk r (λ s. modules_of s.items ≡ map resolved ms) → IfOk r (λ s. 1 ≤ length s.items)
some_scoped ms (Ok s) some h = let same = as_many_scoped ms s.items h in omega (arith, same, some)
some_scoped ms (Err e) some h = tt

pub few_scoped : (ms : List Module) (r : Result (Vec InScope Global) Stop) → function_count ms ≤ 1024 → IfOk r (λ s. modules_of s.items ≡ map resolved ms)
    → IfOk r (λ s. function_count (modules_of s.items) ≤ 1024)
few_scoped ms (Ok s) few h = let same = ap function_count h in let count = same_count ms in omega (arith, same, count, few)
few_scoped ms (Err e) few h = tt

-- The stages whose answer is a test.

limit_stop : (w : Which) (s : Stop) → s ≡ Refused (Limit w) (line.Limit w) → IsStop (past_limit w) s
limit_stop w s same = subst (IsStop (past_limit w)) (sym same) refl

pub lengths_stop : (words : List (List ℕ)) (buffers : List (Vec ℕ Global)) (job : Job) (s : Stop) → list_any holds_long buffers ≡ true
    → s ≡ Refused (Limit which.Text) (line.Limit which.Text) → Gives {X = Unit {0}} (By lengths_of) (λ _. job) (view words (texts_of buffers)) job (Err s)
lengths_stop words buffers job s long same =
    by_stop lengths_of (λ _. job) (view words (texts_of buffers)) job (past_limit which.Text) s (limit_stop which.Text s same)
    (ap (λ b. if b then inl (past_limit which.Text) else inr job) (long_texts buffers ∙ long))

pub lengths_pass : (words : List (List ℕ)) (buffers : List (Vec ℕ Global)) (job : Job) (x : Unit {0}) → list_any holds_long buffers ≡ false
    → Gives (By lengths_of) (λ _. job) (view words (texts_of buffers)) job (Ok x)
lengths_pass words buffers job x short =
    by_pass lengths_of (λ _. job) (view words (texts_of buffers)) job x (ap (λ b. if b then inl (past_limit which.Text) else inr job) (long_texts buffers ∙ short))

pub counted_stop : (v : View) (job : Job) (ms : Vec Module Global) (s : Stop) → nat_lt most_functions (function_count ms.items) ≡ true
    → s ≡ Refused (Limit which.Functions) (line.Limit which.Functions) → Gives {X = Vec Module Global} (By counted_of) (as_read job) v (source job ms.items) (Err s)
counted_stop v job ms s many same =
    by_stop counted_of (as_read job) v (source job ms.items) (past_limit which.Functions) s (limit_stop which.Functions s same)
    (ap (λ b. if b then inl (past_limit which.Functions) else inr (source job ms.items)) many)

pub counted_pass : (v : View) (job : Job) (ms : Vec Module Global) → nat_lt most_functions (function_count ms.items) ≡ false
    → Gives (By counted_of) (as_read job) v (source job ms.items) (Ok ms)
counted_pass v job ms few =
    by_pass counted_of (as_read job) v (source job ms.items) ms (ap (λ b. if b then inl (past_limit which.Functions) else inr (source job ms.items)) few)

pub judged_stop : (v : View) (job : Job) (m : Module) (k : ℕ) → broken_condition m ≡ Some k
    → Gives {X = Module} (By judged_of) (as_one job) v (as_one job m) (Err (Refused (No k None) (line.Condition k)))
judged_stop v job m k broken =
    by_stop judged_of (as_one job) v (as_one job m) (broken_promise k) (Refused (No k None) (line.Condition k)) refl
    (ap (λ o. or_refuse broken_promise o (as_one job m)) broken)

pub judged_pass : (v : View) (job : Job) (m : Module) → broken_condition m ≡ None → Gives (By judged_of) (as_one job) v (as_one job m) (Ok m)
judged_pass v job m kept = by_pass judged_of (as_one job) v (as_one job m) m (ap (λ o. or_refuse broken_promise o (as_one job m)) kept)

pub only_same : (ms : List Module) (t : Module) (r : Result Module Stop) → ms ≡ t ∷ [] → IfOk r (λ m. m ≡ t) → IfOk r (λ m. ms ≡ m ∷ [])
only_same ms t (Ok m) one h = one ∙ ap (λ (x : Module). x ∷ []) (sym h)
only_same ms t (Err e) one h = tt

-- the first text is that of a module
pub refused_more : {T : Type 0} (k : ℕ) (xs : List (Vec ℕ Global)) (x : Vec ℕ Global) (m : Module) (text : List ℕ) (r : Result T (ℕ × ReadError)) → 1 ≤ length xs
    → x ≡ get_or xs 0 x → text ≡ x.items → ReadsModule text (Ok m) → IfErr r (IsRefusedFrom (k + 1) (texts_of (take (length xs - 1) (drop 1 xs))))
    → IfErr r (IsRefusedFrom k (texts_of xs))
refused_more k xs x m text (Ok y) some is of reads h = tt
refused_more k xs x m text (Err at) some is of reads h =
    subst (λ (ys : List (Vec ℕ Global)). IsRefusedFrom k (texts_of ys) at) (split_first xs x some is) (λ other.
    let later = h other in (later.0, inr (m, subst (λ (t : List ℕ). IsModule t m) of (reads.0, reads.1, reads.2.0), later.1)))
