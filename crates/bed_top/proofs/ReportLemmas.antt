-- Lines, one more at the front.
use Rattle.std.proofs.Common.{◌≡◌, ℕ, ◌≤◌, true, IsTrue, List, [], ◌∷◌, ◌++◌, take, drop, length, Result, Ok, Err, OnOk, OnErr, inl, inr, refl, sym, ◌∙◌, ap, subst, arith, append_assoc}
use Rattle.std.proofs.lemmas.List.{append-nil, take-append-drop}
use Rattle.bed_io.specs.Counts.{Rose}
use Rattle.bed_io.specs.Sink.{SinkState, Takes}
use Rattle.bed_top.specs.Lines.{memory_line}
use Rattle.bed_top.specs.Puts.{joined, Took, Broke, PutMemory, said, unsaid, Cut, Put, all, short, failed, SinkGoesOn}
use Rattle.bed_top.specs.declared.status.Status.{Status}
use Rattle.bed_top.specs.declared.status.Status.TheVariants.{WriteFault}

-- a put that failed, of the first of these bytes
broke : {T E : Type 0} (old new : SinkState) (text rest : List ℕ) (result : Result T E) (e : E) → result ≡ Err e → Takes old new text result → Broke old new (text ++ rest)
broke old new text rest result e is t =
    let some : OnErr result (IsTrue old.tells → (count : ℕ) × (count ≤ length text) × (new.taken ≡ old.taken ++ take count text)) = t.some in
    let rose : OnErr result (Rose old.faults new.faults) = t.failed in record {
      rose = subst (λ r. OnErr r (Rose old.faults new.faults)) is rose;
      told = λ tells. let h = subst (λ r. OnErr r (IsTrue old.tells → (count : ℕ) × (count ≤ length text) × (new.taken ≡ old.taken ++ take count text))) is some tells in
          (take h.0 text, drop h.0 text ++ rest, ap (λ zs. zs ++ rest) (sym (take-append-drop h.0 text)) ∙ append_assoc (take h.0 text) (drop h.0 text) rest, h.2);
    }

pub memory_unsaid : {T E : Type 0} (old new : SinkState) (text : List ℕ) (result : Result T E) (e : E) → text ≡ memory_line → result ≡ Err e → Takes old new text result
    → PutMemory old new (WriteFault true)
memory_unsaid old new text result e is err t =
    unsaid refl (subst (λ b. Broke old new b) (append-nil memory_line) (broke old new memory_line [] result e err (subst (λ b. Takes old new b result) is t)))

pub first_broke : {T E : Type 0} (old new : SinkState) (line text : List ℕ) (lines rest : List (List ℕ)) (due : Status) (result : Result T E) (e : E)
    → lines ≡ line ∷ rest → text ≡ line → result ≡ Err e → Takes old new text result → Put lines due old new (WriteFault true)
first_broke old new line text lines rest due result e parts is err t =
    failed refl (line ++ joined rest) (inl (sym (ap joined parts))) (broke old new line (joined rest) result e err (subst (λ b. Takes old new b result) is t))

-- want of memory at the first line
pub put_short : (lines : List (List ℕ)) (line : List ℕ) (rest : List (List ℕ)) (due : Status) (old new : SinkState) (result : Status) → lines ≡ line ∷ rest
    → PutMemory old new result → Put lines due old new result
put_short lines line rest due old new result parts (said is took) = short is memory_line (record { first = []; next = line; rest = rest; parts = parts; is = refl }) took
put_short lines line rest due old new result parts (unsaid is h) = failed is memory_line (inr (record { first = []; next = line; rest = rest; parts = parts; is = refl })) h

cut_more : (line : List ℕ) (rest : List (List ℕ)) (bytes : List ℕ) → Cut rest bytes → Cut (line ∷ rest) (line ++ bytes)
cut_more line rest bytes c = record {
  first = line ∷ c.first;
  next = c.next;
  rest = c.rest;
  parts = ap (λ zs. line ∷ zs) c.parts;
  is = ap (λ b. line ++ b) c.is ∙ sym (append_assoc line (joined c.first) memory_line);
}

took_more : (old mid new : SinkState) (line bytes : List ℕ) → Took old mid line → mid.tells ≡ old.tells → Took mid new bytes → Took old new (line ++ bytes)
took_more old mid new line bytes first tells took = λ t. took (tells ∙ t) ∙ ap (λ b. b ++ bytes) (first t) ∙ append_assoc old.taken line bytes

broke_more : (old mid new : SinkState) (line bytes : List ℕ) → Took old mid line → mid.tells ≡ old.tells → old.faults ≤ mid.faults → Broke mid new bytes → Broke old new (line ++ bytes)
broke_more old mid new line bytes first tells later h = record {
  rose = let rose : Rose mid.faults new.faults = h.rose in omega arith;
  told = λ t. let k = h.told (tells ∙ t) in (
    line ++ k.0,
    k.1,
    ap (λ b. line ++ b) k.2 ∙ sym (append_assoc line k.0 k.1),
    k.3 ∙ ap (λ b. b ++ k.0) (first t) ∙ append_assoc old.taken line k.0,
  );
}

more : (old mid new : SinkState) (line : List ℕ) (rest : List (List ℕ)) (due result : Status) → Took old mid line → mid.tells ≡ old.tells → old.faults ≤ mid.faults
    → Put rest due mid new result → Put (line ∷ rest) due old new result
more old mid new line rest due result first tells later (all is took) = all is (took_more old mid new line (joined rest) first tells took)
more old mid new line rest due result first tells later (short is bytes c took) =
    short is (line ++ bytes) (cut_more line rest bytes c) (took_more old mid new line bytes first tells took)
more old mid new line rest due result first tells later (failed is bytes (inl whole) h) =
    failed is (line ++ bytes) (inl (ap (λ b. line ++ b) whole)) (broke_more old mid new line bytes first tells later h)
more old mid new line rest due result first tells later (failed is bytes (inr c) h) =
    failed is (line ++ bytes) (inr (cut_more line rest bytes c)) (broke_more old mid new line bytes first tells later h)

pub put_more : {T E : Type 0} (old mid new : SinkState) (line text : List ℕ) (lines rest : List (List ℕ)) (due result : Status) (put : Result T E) (x : T)
    → lines ≡ line ∷ rest → text ≡ line → put ≡ Ok x → Takes old mid text put → Put rest due mid new result → Put lines due old new result
put_more old mid new line text lines rest due result put x parts is ok t h =
    let took : OnOk put (IsTrue old.tells → mid.taken ≡ old.taken ++ text) = t.all in
    subst (λ ls. Put ls due old new result) (sym parts)
    (more old mid new line rest due result (λ tells. (subst (λ r. OnOk r (IsTrue old.tells → mid.taken ≡ old.taken ++ text)) ok took) tells ∙ ap (λ b. old.taken ++ b) is) t.tells t.later h)

pub sink_goes : {T E : Type 0} (old new : SinkState) (text : List ℕ) (put : Result T E) → Takes old new text put → SinkGoesOn old new
sink_goes old new text put t = record { tells = t.tells; later = t.later }

pub sink_goes_more : {T E : Type 0} (old mid new : SinkState) (text : List ℕ) (put : Result T E) → Takes old mid text put → SinkGoesOn mid new → SinkGoesOn old new
sink_goes_more old mid new text put t g =
    let first : old.faults ≤ mid.faults = t.later in
    let second : mid.faults ≤ new.faults = g.later in record { tells = g.tells ∙ t.tells; later = omega arith }
