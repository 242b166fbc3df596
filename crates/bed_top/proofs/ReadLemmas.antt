-- Reads of files, one more at the front; modules, and lists from their first element on.
use Rattle.std.proofs.Common.{◌≡◌, ℕ, ◌+◌, ◌-◌, ◌≤◌, ◌<◌, List, [], ◌∷◌, length, take, drop, take_all, get_or, map, ◌++◌, append_assoc, append-nil, is_ok, IsTrue, zero, suc, OnOk, All, Option, Some, None, Result, Ok, Err, IsErrOf, IsSome, unwrap_or, Vec, refl, sym, ◌∙◌, ap, subst, arith}
use Rattle.std.specs.declared.alloc.Global.{Global}
use Rattle.bed_io.specs.Counts.{Rose}
use Rattle.std.proofs.lemmas.Result.{on_ok_weaker, on_err_weaker}
use Rattle.std.proofs.lemmas.List.{map-append, length-map}
use Rattle.bed_io.specs.Files.{FilesState, Reads, bytes_of, up_to}
use Rattle.bed_io.specs.declared.files.FileRefusal.{FileRefusal}
use Rattle.bed_io.specs.declared.files.FileRefusal.TheVariants.{Failed}
use Rattle.bed_lang.specs.declared.module.Module.{Module}
use Rattle.bed_lang.specs.Declarations.{declarations}
use Rattle.bed_top.specs.Causes.{most_text, first_misnamed, or_later, word_at, function_count, AreModules}
use Rattle.bed_top.specs.Gives.{texts_of, modules_of}
use Rattle.bed_top.specs.Outcomes.{AreCut, ReadsTexts}
use Rattle.bed_top.specs.Files.{IsAbsent}
use Rattle.bed_names.specs.Faults.{refusal}
use Rattle.bed_names.specs.Modules.{faults}
use Rattle.bed_names.specs.Resolved.{resolved, resolved_function}
use Rattle.bed_names.specs.InScope.{InScope}

-- a list from its first element on, as a pattern splits it
pub split_first : {A : Type 0} (xs : List A) (x : A) → 1 ≤ length xs → x ≡ get_or xs 0 x → x ∷ take (length xs - 1) (drop 1 xs) ≡ xs
split_first [] x some is = absurd (omega (arith, some))
split_first {A} (y ∷ ys) x some is =
    let all : take (length {A = A} (y ∷ ys) - 1) ys ≡ ys = take_all (length {A = A} (y ∷ ys) - 1) ys (omega arith) in
    rw (all, is) refl

-- what follows the first text is no longer either
pub cut_rest : (xs : List (Vec ℕ Global)) → 1 ≤ length xs → AreCut (texts_of xs) → AreCut (texts_of (take (length xs - 1) (drop 1 xs)))
cut_rest [] some cut = cut
cut_rest (x ∷ xs) some cut =
    subst (λ (ys : List (Vec ℕ Global)). AreCut (texts_of ys)) (sym (take_all (length {A = Vec ℕ Global} (x ∷ xs) - 1) xs (omega arith))) cut.1

later_fault : (a b c : ℕ) → a ≤ b → Rose b c → Rose a c
later_fault a b c le rose = omega (arith, le, rose)

first_is_there : (held : List ℕ → Option (List ℕ)) (names : List (List ℕ)) (name : List ℕ) → 1 ≤ length names → name ≡ get_or names 0 name
    → All (λ file. IsSome (held file)) names → IsSome (held name)
first_is_there held names name some is all = subst (λ n. IsSome (held n)) (sym is) (all 0 name (omega (arith, some)))

-- the first of some names, by its number
first_named : (names : List (List ℕ)) (name : List ℕ) → 1 ≤ length names → name ≡ get_or names 0 name → word_at names 0 ≡ name
first_named [] name some is = absurd (omega (arith, some))
first_named (n ∷ ns) name some is = sym is

-- where calm files fail in the read of a file, it is absent
absent_file : (old new : FilesState) (name : List ℕ) → (IsTrue old.calm → IsSome (old.held name) → new.read_faults ≡ old.read_faults)
    → Rose old.read_faults new.read_faults → IsAbsent old new name
absent_file old new name stays rose told calm few = by_contents (old.held name) refl
  where
    by_contents : (o : Option (List ℕ)) → old.held name ≡ o → o ≡ None
    by_contents None is = refl
    by_contents (Some bytes) is =
        let same : new.read_faults ≡ old.read_faults = stays calm (subst IsSome (sym is) refl) in absurd (omega (arith, same, rose, few))

-- the read of the first file failed, or there was no room for its text
pub reads_none : {T U : Type 0} (old new : FilesState) (names : List (List ℕ)) (name : List ℕ) (text : List ℕ) (e : FileRefusal)
    (read : Result T FileRefusal) → 1 ≤ length names → name ≡ get_or names 0 name
    → (e ≡ Failed → IsErrOf read Failed) → Reads old new name most_text text read → ReadsTexts {T = U} old new names [] (Err e)
reads_none old new names name text e read some is same r = record {
  goes_on = r.goes_on;
  same = r.same;
  each = tt;
  told = tt;
  fewer = some;
  failed = λ f. let is_failed : e ≡ Failed = cc in r.failed (same is_failed);
  absent = λ f. let is_failed : e ≡ Failed = cc in
      subst (IsAbsent old new) (sym (first_named names name some is)) (absent_file old new name r.stays_calm (r.failed (same is_failed)));
  writes_stay = r.writes_stay;
  stays_calm = λ told calm all. r.stays_calm calm (first_is_there old.held names name some is all);
}

-- what the call does then: no text is added
pub none_read : {T U : Type 0} (old new : FilesState) (before after : List (Vec ℕ Global)) (names : List (List ℕ)) (name called text : List ℕ) (e : FileRefusal)
    (read : Result T FileRefusal) → after ≡ before → 1 ≤ length names → name ≡ get_or names 0 name → called ≡ name
    → (e ≡ Failed → IsErrOf read Failed) → Reads old new called most_text text read
    → (more : List (List ℕ)) × (texts_of after ≡ texts_of before ++ more) × AreCut more × ReadsTexts {T = U} old new names more (Err e)
none_read old new before after names name called text e read kept some is named same r = (
  [],
  ap texts_of kept ∙ sym (append-nil (texts_of before)),
  tt,
  reads_none old new names name text e read some is same (subst (λ n. Reads old new n most_text text read) named r),
)

of_ok : {T E P : Type 0} (r : Result T E) → IsTrue (is_ok r) → OnOk r P → P
of_ok (Ok x) ok h = h
of_ok (Err e) ok h = absurd (cc)

-- the first file was read, and the others
pub reads_more : {T U : Type 0} (old mid new : FilesState) (names more : List (List ℕ)) (name : List ℕ) (text : List ℕ) (read : Result T FileRefusal)
    (result : Result U FileRefusal) → 1 ≤ length names → name ≡ get_or names 0 name → IsTrue (is_ok read)
    → Reads old mid name most_text text read → ReadsTexts mid new (take (length names - 1) (drop 1 names)) more result
    → ReadsTexts old new names (text ∷ more) result
reads_more old mid new names more name text read result some is ok r h =
    subst (λ (ns : List (List ℕ)). ReadsTexts old new ns (text ∷ more) result) (split_first names name some is) (whole (take (length names - 1) (drop 1 names)) h)
  where
    whole : (rest : List (List ℕ)) → ReadsTexts mid new rest more result → ReadsTexts old new (name ∷ rest) (text ∷ more) result
    whole rest h = record {
      goes_on = record {
        tells = h.goes_on.tells ∙ r.goes_on.tells;
        calm = h.goes_on.calm ∙ r.goes_on.calm;
        reads = omega (arith, r.goes_on.reads, h.goes_on.reads);
        writes = omega (arith, r.goes_on.writes, h.goes_on.writes);
      };
      same = λ told file. h.same (r.goes_on.tells ∙ told) file ∙ r.same told file;
      each = on_ok_weaker result (λ e. omega (arith, e)) h.each;
      told = on_ok_weaker result (λ t told. both told (t (r.goes_on.tells ∙ told))) h.told;
      fewer = on_err_weaker result (λ e. omega (arith, e)) h.fewer;
      failed = λ f. later_fault old.read_faults mid.read_faults new.read_faults r.goes_on.reads (h.failed f);
      absent = λ f told calm few.
          sym (r.same told (word_at rest (length more))) ∙ h.absent f (r.goes_on.tells ∙ told) (r.goes_on.calm ∙ calm) few;
      writes_stay = h.writes_stay ∙ r.writes_stay;
      stays_calm = λ told calm all. h.stays_calm (r.goes_on.tells ∙ told) (r.goes_on.calm ∙ calm)
          (λ k d lt. subst IsSome (sym (r.same told (get_or rest k d))) (all (suc k) d (omega (arith, lt)))) ∙ r.stays_calm calm (all 0 name (omega arith));
    }
      where
        both : IsTrue old.tells → more ≡ map (λ file. up_to most_text (bytes_of mid file)) rest → text ∷ more ≡ map (λ file. up_to most_text (bytes_of old file)) (name ∷ rest)
        both told same =
            let here : text ≡ up_to most_text (bytes_of old name) = of_ok read ok r.bytes told in
            rw (here, same) (ap (λ zs. up_to most_text (bytes_of old name) ∷ zs) (alike rest))
          where
            alike : (files : List (List ℕ)) → map (λ file. up_to most_text (bytes_of mid file)) files ≡ map (λ file. up_to most_text (bytes_of old file)) files
            alike [] = refl
            alike (f ∷ fs) = rw (alike fs) (ap (λ (o : Option (List ℕ)). up_to most_text (unwrap_or o []) ∷ map (λ file. up_to most_text (bytes_of old file)) fs) (r.same told f))

-- what the call does then: its text and those of the others are added
pub more_read : {T U : Type 0} (old mid new : FilesState) (before with_text after : List (Vec ℕ Global)) (buffer : Vec ℕ Global) (names : List (List ℕ)) (name called : List ℕ)
    (read : Result T FileRefusal) (result : Result U FileRefusal) → 1 ≤ length names → name ≡ get_or names 0 name → called ≡ name
    → IsTrue (is_ok read) → Reads old mid called most_text buffer.items read → with_text ≡ before ++ buffer ∷ []
    → (later : (more : List (List ℕ)) × (texts_of after ≡ texts_of with_text ++ more) × AreCut more
    × ReadsTexts mid new (take (length names - 1) (drop 1 names)) more result)
    → (more : List (List ℕ)) × (texts_of after ≡ texts_of before ++ more) × AreCut more × ReadsTexts old new names more result
more_read old mid new before with_text after buffer names name called read result some is named ok r push later = (
  buffer.items ∷ later.0,
  later.1 ∙ ap (λ zs. texts_of zs ++ later.0) push ∙ ap (λ zs. zs ++ later.0) (map-append (λ (b : Vec ℕ Global). b.items) before (buffer ∷ []))
      ∙ append_assoc (texts_of before) (buffer.items ∷ []) later.0,
  (r.short, later.2),
  reads_more old mid new names later.0 name buffer.items read result some is ok (subst (λ n. Reads old mid n most_text buffer.items read) named r) later.3,
)

-- one more module was scoped
pub scope_more : (file : ℕ) (ms rest : List Module) (m : Module) (old pushed new : List InScope) (s : InScope) → ms ≡ m ∷ rest
    → refusal (faults m) ≡ None → s.module ≡ resolved m → pushed ≡ old ++ s ∷ []
    → (first_misnamed (file + 1) rest ≡ None) × (modules_of new ≡ modules_of pushed ++ map resolved rest)
    → (first_misnamed file ms ≡ None) × (modules_of new ≡ modules_of old ++ map resolved ms)
scope_more file ms rest m old pushed new s is none same push h = (
  ap (first_misnamed file) is ∙ ap (λ r. or_later file r (first_misnamed (file + 1) rest)) none ∙ h.0,
  h.1 ∙ ap (λ ys. modules_of ys ++ map resolved rest) push ∙ ap (λ ys. ys ++ map resolved rest) (map-append (λ (z : InScope). z.module) old (s ∷ []))
      ∙ append_assoc (modules_of old) (s.module ∷ []) (map resolved rest) ∙ ap (λ (z : Module). modules_of old ++ z ∷ map resolved rest) same
      ∙ ap (λ zs. modules_of old ++ map resolved zs) (sym is),
)

-- no text is longer than what a read gives
pub cut_at : (texts : List (List ℕ)) (i : ℕ) → AreCut texts → length (word_at texts i) ≤ most_text + 1
cut_at [] i cut = omega arith
cut_at (t ∷ ts) zero cut = cut.0
cut_at (t ∷ ts) (suc i) cut = cut_at ts i cut.1

pub only_of : {A : Type 0} (xs : List A) (x : A) → 1 ≤ length xs → length xs < 2 → x ≡ get_or xs 0 x → xs ≡ x ∷ []
only_of [] x some few is = absurd (omega (arith, some))
only_of (y ∷ []) x some few is = ap (λ z. z ∷ []) (sym is)
only_of (y ∷ z ∷ zs) x some few is = absurd (omega (arith, few))

pub read_all : (texts : List (List ℕ)) (before after : List Module) → before ≡ [] → (ms : List Module) × AreModules texts ms × (after ≡ before ++ ms)
    → AreModules texts after
read_all texts before after none h = subst (AreModules texts) (sym (h.2 ∙ ap (λ xs. xs ++ h.0) none)) h.1

same_length : (texts : List (List ℕ)) (ms : List Module) → AreModules texts ms → length ms ≡ length texts
same_length [] [] are = refl
same_length [] (m ∷ ms) are = absurd are
same_length (t ∷ ts) [] are = absurd are
same_length (t ∷ ts) (m ∷ ms) are = omega (arith, same_length ts ms are.1)

pub as_many : (buffers : List (Vec ℕ Global)) (ms : List Module) → AreModules (texts_of buffers) ms → length ms ≡ length buffers
as_many buffers ms are = same_length (texts_of buffers) ms are ∙ length-map buffers (λ (b : Vec ℕ Global). b.items)

pub as_many_scoped : (ms : List Module) (items : List InScope) → modules_of items ≡ map resolved ms → length items ≡ length ms
as_many_scoped ms items is = sym (length-map items (λ (s : InScope). s.module)) ∙ ap length is ∙ length-map ms resolved

pub same_count : (ms : List Module) → function_count (map resolved ms) ≡ function_count ms
same_count [] = refl
same_count (m ∷ ms) = omega (arith, same_count ms, length-map m.functions (resolved_function (declarations m)))
