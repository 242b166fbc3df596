-- Disjoint unions: they commute, associate and cancel.
use Rattle.std.proofs.Common.{◌≡◌, ℕ, ◌⊎◌, Option, Some, None, List, [], ◌∷◌, inl, inr, refl, sym, ◌∙◌, subst, arith}
use Rattle.bed_machine.specs.Memory.{Memory, empty}
use Rattle.bed_sat.specs.Parts.{Meet, Joins, JoinsAll, or_else, union, Includes, AreDisjoint}

meet_comm : (w l r : Option ℕ) → Meet w l r → Meet w r l
meet_comm w l r (inl p) = inr p
meet_comm w l r (inr p) = inl p

pub joins_comm : {w l r : Memory} → Joins w l r → Joins w r l
joins_comm j = record { at = λ a. meet_comm _ _ _ (j.at a) }

meet_union : (l r : Option ℕ) → (l ≡ None) ⊎ (r ≡ None) → Meet (or_else l r) l r
meet_union None r d = inl (refl, refl)
meet_union (Some v) r d = grind arith

-- two memories with no common address are the parts of their union
pub joins_union : {l r : Memory} → AreDisjoint l r → Joins (union l r) l r
joins_union d = record { at = λ a. meet_union _ _ (d.at a) }

meet_cancel : (w l r s : Option ℕ) → Meet w l r → Meet w l s → r ≡ s
meet_cancel w None r s m n = grind arith
meet_cancel w (Some v) r s m n = grind arith

-- a part is determined by the whole and the other part
pub joins_cancel : {w l r s : Memory} → Joins w l r → Joins w l s → r ≡ s
joins_cancel j k i a = meet_cancel _ _ _ _ (j.at a) (k.at a) i

meet_assoc : (w a bc b c : Option ℕ) → Meet w a bc → Meet bc b c → Meet w (or_else a b) c × Meet (or_else a b) a b
meet_assoc w a bc b c m n = grind arith

pub joins_assoc : {w a bc b c : Memory} → Joins w a bc → Joins bc b c → (ab : Memory) × Joins w ab c × Joins ab a b
joins_assoc {a = a} {b = b} j k = (
  union a b,
  record { at = λ x. (meet_assoc _ _ _ _ _ (j.at x) (k.at x)).0 },
  record { at = λ x. (meet_assoc _ _ _ _ _ (j.at x) (k.at x)).1 },
)

meet_nothing : (w l : Option ℕ) → Meet w l None → w ≡ l
meet_nothing w l m = grind arith

pub joins_empty : {w l : Memory} → Joins w l empty → w ≡ l
joins_empty j i a = meet_nothing _ _ (j.at a) i

meet_to_nothing : (w : Option ℕ) → Meet w w None
meet_to_nothing w = inr (refl, refl)

pub to_empty : (w : Memory) → Joins w w empty
to_empty w = record { at = λ a. meet_to_nothing (w a) }

meet_some : (w l r : Option ℕ) (v : ℕ) → Meet w l r → w ≡ Some v → (l ≡ Some v) ⊎ (r ≡ Some v)
meet_some w l r v (inl p) e = inr (sym p.1 ∙ e)
meet_some w l r v (inr p) e = inl (sym p.1 ∙ e)

-- a byte of a memory is one of a part
pub in_a_part : {w l r : Memory} → Joins w l r → (x v : ℕ) → w x ≡ Some v → (l x ≡ Some v) ⊎ (r x ≡ Some v)
in_a_part j x v e = meet_some _ _ _ v (j.at x) e

meet_left : (w l r : Option ℕ) (v : ℕ) → Meet w l r → l ≡ Some v → w ≡ Some v
meet_left w l r v m e = grind arith

-- a part is included
pub joins_left : {w l r : Memory} → Joins w l r → Includes w l
joins_left j = record { at = λ a v e. meet_left _ _ _ v (j.at a) e }

pub joins_right : {w l r : Memory} → Joins w l r → Includes w r
joins_right j = joins_left (joins_comm j)

pub includes_trans : {a b c : Memory} → Includes a b → Includes b c → Includes a c
includes_trans i j = record { at = λ x v e. i.at x v (j.at x v e) }

pub includes_refl : (a : Memory) → Includes a a
includes_refl a = record { at = λ x v e. e }

-- the first two parts of a list are swapped
pub swap : (m x y : Memory) (zs : List Memory) → JoinsAll m (x ∷ y ∷ zs) → JoinsAll m (y ∷ x ∷ zs)
swap m x y zs j =
    let k = joins_assoc j.1 j.2.1 in
    let l = joins_assoc (joins_comm k.1) k.2 in
    (l.0, joins_comm l.1, (j.2.0, joins_comm l.2, j.2.2))

-- the parts after the first are changed
pub under : (m x : Memory) (ys zs : List Memory) → ((r : Memory) → JoinsAll r ys → JoinsAll r zs) → JoinsAll m (x ∷ ys) → JoinsAll m (x ∷ zs)
under m x ys zs f j = (j.0, j.1, f j.0 j.2)

-- the first part is split
pub split_part : (m x p q : Memory) (zs : List Memory) → Joins x p q → JoinsAll m (x ∷ zs) → JoinsAll m (p ∷ q ∷ zs)
split_part m x p q zs s j =
    let k = joins_assoc (joins_comm j.1) (joins_comm s) in
    (k.0, joins_comm k.1, (j.0, joins_comm k.2, j.2))

-- the first two parts are joined
pub join_parts : (m p q : Memory) (zs : List Memory) → JoinsAll m (p ∷ q ∷ zs) → (x : Memory) × Joins x p q × JoinsAll m (x ∷ zs)
join_parts m p q zs j =
    let k = joins_assoc j.1 j.2.1 in
    (k.0, k.2, (j.2.0, k.1, j.2.2))

-- a caller's memory, seen by its callee: the callee's frame and what it is given, beside all that the caller keeps
pub for_callee : (m frame h F front mid callee left given kept : Memory)
    → Joins frame front mid → Joins mid callee left → Joins h given kept → JoinsAll m (frame ∷ h ∷ F ∷ [])
    → JoinsAll m (callee ∷ given ∷ front ∷ left ∷ kept ∷ F ∷ [])
for_callee m frame h F front mid callee left given kept jf jm jh j =
    let j1 = split_part m frame front mid (h ∷ F ∷ []) jf j in
    let j2 = under m front (mid ∷ h ∷ F ∷ []) (callee ∷ left ∷ h ∷ F ∷ []) (λ r. split_part r mid callee left (h ∷ F ∷ []) jm) j1 in
    let j3 = swap m front callee (left ∷ h ∷ F ∷ []) j2 in
    under m callee (front ∷ left ∷ h ∷ F ∷ []) (given ∷ front ∷ left ∷ kept ∷ F ∷ []) (λ r k.
    let k1 = under r front (left ∷ h ∷ F ∷ []) (h ∷ left ∷ F ∷ []) (λ q. swap q left h (F ∷ [])) k in
    let k2 = swap r front h (left ∷ F ∷ []) k1 in
    let k3 = split_part r h given kept (front ∷ left ∷ F ∷ []) jh k2 in
    under r given (kept ∷ front ∷ left ∷ F ∷ []) (front ∷ left ∷ kept ∷ F ∷ []) (λ q l.
    under q front (kept ∷ left ∷ F ∷ []) (left ∷ kept ∷ F ∷ []) (λ p. swap p kept left (F ∷ [])) (swap q kept front (left ∷ F ∷ []) l)) k3) j3

-- and back
pub record Regained (m front left callee given kept F : Memory) : Type 0 where
  pub mid : Memory
  pub frame : Memory
  pub heap : Memory
  pub beside : Memory
  pub is_mid : Joins mid callee left
  pub is_frame : Joins frame front mid
  pub is_heap : Joins heap given kept
  pub joins : Joins m frame beside
  pub parts : Joins beside heap F

pub regain : (m callee given front left kept F : Memory) → JoinsAll m (callee ∷ given ∷ front ∷ left ∷ kept ∷ F ∷ []) → Regained m front left callee given kept F
regain m callee given front left kept F j =
    let zs : List Memory = given ∷ kept ∷ F ∷ [] in
    let k1 = under m callee (given ∷ front ∷ left ∷ kept ∷ F ∷ []) (left ∷ front ∷ given ∷ kept ∷ F ∷ []) (λ r l.
    let l1 = swap r given front (left ∷ kept ∷ F ∷ []) l in
    let l2 = under r front (given ∷ left ∷ kept ∷ F ∷ []) (left ∷ given ∷ kept ∷ F ∷ []) (λ q. swap q given left (kept ∷ F ∷ [])) l1 in
    swap r front left (given ∷ kept ∷ F ∷ []) l2) j in
    let k2 = join_parts m callee left (front ∷ given ∷ kept ∷ F ∷ []) k1 in
    let k3 = join_parts m front k2.0 (given ∷ kept ∷ F ∷ []) (swap m k2.0 front (given ∷ kept ∷ F ∷ []) k2.2) in
    let k4 = join_parts k3.2.0 given kept (F ∷ []) k3.2.2 in
    let last : Joins k4.2.0 F empty = subst (λ e. Joins k4.2.0 F e) k4.2.2.2 k4.2.2.1 in
    record {
      mid = k2.0;
      frame = k3.0;
      heap = k4.0;
      beside = k3.2.0;
      is_mid = k2.1;
      is_frame = k3.1;
      is_heap = k4.1;
      joins = k3.2.1;
      parts = subst (λ r. Joins k3.2.0 k4.0 r) (joins_empty last) k4.2.1;
    }

-- the last of four parts is included
pub includes_last : (r x y z F : Memory) → JoinsAll r (x ∷ y ∷ z ∷ F ∷ []) → Includes r F
includes_last r x y z F j = includes_trans (joins_right j.1) (includes_trans (joins_right j.2.1) (includes_trans (joins_right j.2.2.1) (joins_left j.2.2.2.1)))
