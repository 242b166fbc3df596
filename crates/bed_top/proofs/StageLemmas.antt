-- Laws of stages, once for all chains.
use Rattle.std.proofs.Common.{◌≡◌, ◌⊎◌, IsTrue, Result, Ok, Err, inl, inr, refl, sym, ◌∙◌, ap, subst, IsErrAnd, true, false}
use Rattle.bed_top.specs.Views.{View, End, Refusal, refused}
use Rattle.bed_top.specs.Stages.{Stage, By, Then, stops, goes, Ends, refuses, passes, Lawful, is_refusal}
use Rattle.bed_top.specs.Gives.{Given, Gives}
use Rattle.bed_top.specs.declared.plan.Stop.{Stop}
use Rattle.bed_top.specs.declared.plan.Stop.TheVariants.{Refused, Memory}

stopped_by : {A B C X Y : Type 0} (S : Stage A B) (T : Stage B C) (see : X → B) (show : Y → C) (v : View) (a : A) (e : Stop) (r : Result Y Stop)
    → IsErrAnd r (λ x. x ≡ e) → Given S see v a (Err e) → Given (Then S T) show v a r
stopped_by S T see show v a e (Ok y) is h = absurd is
stopped_by S T see show v a (Refused s line) (Err x) is h = subst (λ y. Given (Then S T) show v a (Err y)) (sym is) (stops _ h refl)
stopped_by S T see show v a Memory (Err x) is h = subst (λ y. Given (Then S T) show v a (Err y)) (sym is) tt

-- a stage stops the chain
pub stopped : {A B C X Y : Type 0} {S : Stage A B} {T : Stage B C} {see : X → B} {show : Y → C} {v : View} {a : A} {e : Stop} {r : Result Y Stop}
    → IsErrAnd r (λ x. x ≡ e) → Gives S see v a (Err e) → Gives (Then S T) show v a r
stopped {S = S} {T = T} {see = see} {show = show} {v = v} {a = a} {e = e} {r = r} is h = record { is = stopped_by S T see show v a e r is h.is }

went_to : {A B C Y : Type 0} (S : Stage A B) (T : Stage B C) (show : Y → C) (v : View) (a : A) (b : B) (r : Result Y Stop)
    → S v a (inr b) → Given T show v b r → Given (Then S T) show v a r
went_to S T show v a b (Ok y) h k = goes b h k
went_to S T show v a b (Err (Refused s line)) h k = goes b h k
went_to S T show v a b (Err Memory) h k = tt

-- a stage lets through
pub went : {A B C X Y : Type 0} {S : Stage A B} {T : Stage B C} {see : X → B} {show : Y → C} {v : View} {a : A} {x : X} {r : Result Y Stop}
    → Gives S see v a (Ok x) → Gives T show v (see x) r → Gives (Then S T) show v a r
went {S = S} {T = T} {see = see} {show = show} {v = v} {a = a} {x = x} {r = r} h k = record { is = went_to S T show v a (see x) r h.is k.is }

-- a function's stage is lawful where its refusals have statuses of refusals
pub by_lawful : {A B : Type 0} (f : View → A → Refusal ⊎ B) → ((v : View) (a : A) (r : Refusal) → inl r ≡ f v a → IsTrue (is_refusal r.status)) → Lawful (By f)
by_lawful f h = record { one = λ v a r s p q. p ∙ sym q; some = λ v a. (f v a, refl); refusal = λ v a r p. h v a r p }

left_same : {A B : Type 0} (x y : A) (s t : A ⊎ B) → s ≡ inl x → t ≡ inl y → s ≡ t → x ≡ y
left_same x y s t p q e = cc

right_same : {A B : Type 0} (x y : B) (s t : A ⊎ B) → s ≡ inr x → t ≡ inr y → s ≡ t → x ≡ y
right_same x y s t p q e = cc

pub inl_same : {A B : Type 0} (x y : A) → (let s : A ⊎ B = inl x in s ≡ inl y) → x ≡ y
inl_same x y e = left_same x y _ _ refl refl e

pub inr_same : {A B : Type 0} (x y : B) → (let s : A ⊎ B = inr x in s ≡ inr y) → x ≡ y
inr_same x y e = right_same x y _ _ refl refl e

pub apart : {A B : Type 0} (x : A) (y : B) → inl x ≡ inr y → ⊥
apart x y e = cc

after_one : {A B C : Type 0} (S : Stage A B) (T : Stage B C) → Lawful S → Lawful T → (v : View) (a : A) (r s : Refusal ⊎ C) → Then S T v a r → Then S T v a s → r ≡ s
after_one S T p q v a r s (stops x h e) (stops y k f) = e ∙ ap inl (inl_same x y (p.one v a (inl x) (inl y) h k)) ∙ sym f
after_one S T p q v a r s (stops x h e) (goes b k l) = absurd (apart x b (p.one v a (inl x) (inr b) h k))
after_one S T p q v a r s (goes b k l) (stops x h e) = absurd (apart x b (p.one v a (inl x) (inr b) h k))
after_one S T p q v a r s (goes b k l) (goes c m n) = q.one v c r s (subst (λ x. T v x r) (inr_same b c (p.one v a (inr b) (inr c) k m)) l) n

after_some : {A B C : Type 0} (S : Stage A B) (T : Stage B C) → Lawful T → (v : View) (a : A) (r : Refusal ⊎ B) → S v a r → (s : Refusal ⊎ C) × Then S T v a s
after_some S T q v a (inl x) h = (inl x, stops x h refl)
after_some S T q v a (inr b) h = let t = q.some v b in (t.0, goes b h t.1)

after_refusal : {A B C : Type 0} (S : Stage A B) (T : Stage B C) → Lawful S → Lawful T → (v : View) (a : A) (r : Refusal) (s : Refusal ⊎ C) → s ≡ inl r → Then S T v a s → IsTrue (is_refusal r.status)
after_refusal S T p q v a r s is (stops x h e) = subst (λ y. IsTrue (is_refusal y.status)) (inl_same x r (sym e ∙ is)) (p.refusal v a x h)
after_refusal S T p q v a r s is (goes b k l) = q.refusal v b r (subst (λ y. T v b y) is l)

-- two lawful stages after one another
pub then_lawful : {A B C : Type 0} (S : Stage A B) (T : Stage B C) → Lawful S → Lawful T → Lawful (Then S T)
then_lawful S T p q = record {
  one = after_one S T p q;
  some = λ v a. let s = p.some v a in after_some S T q v a s.0 s.1;
  refusal = λ v a r h. after_refusal S T p q v a r (inl r) refl h;
}

-- what came through two stages came through both
came_by : {A B C : Type 0} (S : Stage A B) (T : Stage B C) (v : View) (a : A) (r : Refusal ⊎ C) (c : C) → r ≡ inr c → Then S T v a r → (b : B) × S v a (inr b) × T v b (inr c)
came_by S T v a r c is (stops x h e) = absurd (apart x c (sym e ∙ is))
came_by S T v a r c is (goes b h k) = (b, h, subst (λ y. T v b y) is k)

pub came : {A B C : Type 0} (S : Stage A B) (T : Stage B C) (v : View) (a : A) (c : C) → Then S T v a (inr c) → (b : B) × S v a (inr b) × T v b (inr c)
came S T v a c h = came_by S T v a (inr c) c refl h

-- the end of a lawful chain: one, and there is one
pub ends_one : {A B : Type 0} (S : Stage A B) (a : A) (last : View → B → End) → Lawful S → (v : View) (e f : End) → Ends S a last v e → Ends S a last v f → e ≡ f
ends_one S a last p v e f (refuses x h i) (refuses y k j) = i ∙ ap refused (inl_same x y (p.one v a (inl x) (inl y) h k)) ∙ sym j
ends_one S a last p v e f (refuses x h i) (passes b k j) = absurd (apart x b (p.one v a (inl x) (inr b) h k))
ends_one S a last p v e f (passes b k j) (refuses x h i) = absurd (apart x b (p.one v a (inl x) (inr b) h k))
ends_one S a last p v e f (passes b k j) (passes c m l) = j ∙ ap (λ x. last v x) (inr_same b c (p.one v a (inr b) (inr c) k m)) ∙ sym l

end_from : {A B : Type 0} (S : Stage A B) (a : A) (last : View → B → End) (v : View) (r : Refusal ⊎ B) → S v a r → (e : End) × Ends S a last v e
end_from S a last v (inl x) h = (refused x, refuses x h refl)
end_from S a last v (inr b) h = (last v b, passes b h refl)

pub ends_some : {A B : Type 0} (S : Stage A B) (a : A) (last : View → B → End) → Lawful S → (v : View) → (e : End) × Ends S a last v e
ends_some S a last p v = let r = p.some v a in end_from S a last v r.0 r.1

-- an end without the status of a refusal is that of what came through
pub ends_passed : {A B : Type 0} (S : Stage A B) (a : A) (last : View → B → End) → Lawful S → (v : View) (e : End) → Ends S a last v e → is_refusal e.status ≡ false
    → (b : B) × S v a (inr b) × (e ≡ last v b)
ends_passed S a last p v e (refuses x h j) differs = absurd (let yes : is_refusal x.status ≡ true = p.refusal v a x h in
    let same : e.status ≡ x.status = ap (λ (d : End). d.status) j in
    let opposite : true ≡ false = sym yes ∙ ap is_refusal (sym same) ∙ differs in cc)
ends_passed S a last p v e (passes b k j) differs = (b, k, j)

-- the end of a chain after one that let through
pub ends_after : {A B C : Type 0} (S : Stage A B) (T : Stage B C) (a : A) (b : B) (last : View → C → End) (v : View) (e : End) → S v a (inr b) → Ends T b last v e → Ends (Then S T) a last v e
ends_after S T a b last v e h (refuses x k j) = refuses x (goes b h k) j
ends_after S T a b last v e h (passes c k j) = passes c (goes b h k) j

-- and of a chain that its first stage stops
pub ends_stopped : {A B C : Type 0} (S : Stage A B) (T : Stage B C) (a : A) (x : Refusal) (last : View → C → End) (v : View) → S v a (inl x) → Ends (Then S T) a last v (refused x)
ends_stopped S T a x last v h = refuses x (stops x h refl) refl
