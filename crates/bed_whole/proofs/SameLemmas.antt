-- What blocks keep under one signature they keep under another that is the same, places aside.
use Rattle.std.proofs.Common.{◌≡◌, ℕ, zero, suc, ◌+◌, Bool, true, false, IsTrue, Some, List, [], ◌∷◌, map, take, length, Contains, refl, sym, ◌∙◌, ap, ap₂, subst}
use Rattle.std.specs.Cmp.Lexicographic.{pointwise}
use Rattle.std.proofs.lemmas.Bool.{and_parts}
use Rattle.bed_machine.specs.Memory.{Memory}
use Rattle.bed_lang.specs.Numbers.{wrap}
use Rattle.bed_lang.specs.declared.word.Name.{Name}
use Rattle.bed_lang.specs.declared.module.Signature.{Signature}
use Rattle.bed_lang.specs.declared.condition.Goal.{Goal}
use Rattle.bed_lang.specs.declared.condition.Goal.TheVariants.{Meets, Calls, Returns}
use Rattle.bed_lang.specs.declared.condition.Cond.{Cond}
use Rattle.bed_lang.specs.Same.{same_name, same_signature}
use Rattle.bed_lang.specs.Values.{Values, Old, Answer, set_word}
use Rattle.bed_sat.specs.Assertions.{World, Holds}
use Rattle.bed_sat.specs.Conditions.{Site}
use Rattle.bed_sat.specs.Frames.{words_at, set_words, frame_size, arguments_at, EntersAt, LeavesAt}
use Rattle.bed_sat.specs.Valid.{GoalHolds, Starts, operand_value}
use Rattle.bed_sat.proofs.FrameLaws.{bytes_eq_is}
use Rattle.bed_sat.proofs.SameLaws.{holds_same}
use Rattle.bed_sat.proofs.SignatureLaws.{names_long, names_set, SameParts, parts_of, enters_at_same, leaves_at_same}
use Rattle.bed_il.specs.declared.blocks.Block.{Block}
use Rattle.bed_il.specs.BlockMachine.{BlockState, Move, Within, Returns as LeavesBlocks, Calls as CallsOut, Strays, Faults, Missing, il_move}
use Rattle.bed_laws.specs.Activations.{FunctionSite, Activation, IsStateOf}
use Rattle.bed_laws.specs.Keeps.{LoopHead, IsReturn, IsNow, Turns, Safe, CondHolds}
use Rattle.bed_laws.proofs.PathLaws.{after_more}
use Rattle.bed_layout.specs.Keeping.{KeepsFunction}

no : {A : Type 0} → ◌≡◌ {A = Bool} false true → A
no e = absurd cc

-- names that are the same have the same values
values_same : (g : List ℕ → ℕ) (xs ys : List Name) → IsTrue (pointwise same_name xs ys) → map (λ x. g x.bytes) xs ≡ map (λ x. g x.bytes) ys
values_same g [] [] is = refl
values_same g (x ∷ xs) (y ∷ ys) is =
    let h = and_parts (same_name x y) _ is in
    ap₂ (λ v vs. v ∷ vs) (ap g (bytes_eq_is x.bytes y.bytes h.0)) (values_same g xs ys h.1)
values_same g [] (y ∷ ys) is = no is
values_same g (x ∷ xs) [] is = no is

module _ (w : World) (S T : Signature) (is : IsTrue (same_signature S T)) where
  abbrev parts : SameParts S T
  parts = parts_of S T is

  pub long : length S.params ≡ length T.params
  long = names_long S.params T.params parts.params

  abbrev olds : Values → List Name → List ℕ
  olds ν xs = map (λ x. ν.words (Old x.bytes)) xs

  olds_same : (ν : Values) → set_words ν S.params (olds ν S.params) ≡ set_words ν T.params (olds ν T.params)
  olds_same ν = names_set ν S.params T.params (olds ν S.params) parts.params ∙ ap (set_words ν T.params) (values_same (λ b. ν.words (Old b)) S.params T.params parts.params)

  post_same : (ν : Values) (answer : ℕ) (h : Memory) → Holds w (set_word (set_words ν S.params (olds ν S.params)) Answer answer) h S.post
      → Holds w (set_word (set_words ν T.params (olds ν T.params)) Answer answer) h T.post
  post_same ν answer h post =
      subst (λ μ. Holds w (set_word μ Answer answer) h T.post) (olds_same ν) (holds_same w _ S.post T.post h parts.post post)

  goal_same : (g : Goal) (ν : Values) (h : Memory) → GoalHolds w (Some S) g ν h → GoalHolds w (Some T) g ν h
  goal_same (Meets A) ν h holds = holds
  goal_same (Calls target via args into after) ν h holds = holds
  goal_same (Returns a) ν h holds = post_same ν (operand_value w.labels ν a) h holds

  module _ (site : Site) where
    abbrev one : FunctionSite
    one = record { site = site; signature = S }

    abbrev other : FunctionSite
    other = record { site = site; signature = T }

    starts_same : (c : Cond) (ν : Values) (h : Memory) → Starts w (Some T) c ν h → Starts w (Some S) c ν h
    starts_same c ν h s = record {
      holds = s.holds;
      entry = λ at x listed. s.entry at x (subst (λ n. Contains (take n c.locals) x) long listed);
    }

    pub condition_same : (c : Cond) → CondHolds w one c → CondHolds w other c
    condition_same c holds ν h starts =
        after_more w c.actions _ _ (goal_same c.goal) ν h (holds ν h (starts_same c ν h starts))

    frame_same : frame_size S ≡ frame_size T
    frame_same = ap₂ (λ n r. 1 + n + r) long parts.reserve

    state_same : (a : Activation) (ν : Values) (h : Memory) (s : BlockState) → IsStateOf one a ν h s → IsStateOf other a ν h s
    state_same a ν h s k = record {
      sp = k.sp;
      memory = record {
        bytes = k.memory.bytes;
        frame = k.memory.frame;
        beside = k.memory.beside;
        joins = k.memory.joins;
        parts = k.memory.parts;
        area = k.memory.area;
        size = k.memory.size ∙ frame_same;
        is_frame = k.memory.is_frame;
        agree = k.memory.agree;
      };
    }

    pub return_same : (a : Activation) (s : BlockState) → IsReturn w one a s → IsReturn w other a s
    return_same a s r = record {
      rp = r.rp;
      answer = r.answer;
      values = r.values;
      heap = r.heap;
      state = state_same a r.values r.heap s r.state;
      post = post_same r.values s.rv r.heap r.post;
    }

    module _ (places : ℕ → ℕ) (B : List Block) (heads : List LoopHead) (a : Activation) (Q : BlockState → Type 0) where
      now_same : (s : BlockState) → IsNow w one places B heads a Q s → IsNow w other places B heads a Q s
      now_same s n = record {
        rest = n.rest;
        head = λ x listed label next.
            let h = n.head x listed label next in
            record { values = h.values; heap = h.heap; state = state_same a h.values h.heap s h.state; holds = h.holds };
        beyond = n.beyond;
      }

      turns_same : (P R : BlockState → Type 0) → ((t : BlockState) → P t → R t) → (m : Move) (s : BlockState)
          → Turns w one places B heads a Q P m s → Turns w other places B heads a Q R m s
      turns_same P R f (Within t) s k = f t k
      turns_same P R f LeavesBlocks s k = return_same a s k
      turns_same P R f (CallsOut back) s k = record {
        label = k.label;
        is_label = k.is_label;
        rp = k.rp;
        bytes = k.bytes;
        name = k.name;
        callee = k.callee;
        code = k.code;
        declared = k.declared;
        values = k.values;
        rest = k.rest;
        enters = k.enters;
        keeps = k.keeps;
        goes_on = λ t label next answer. f t (k.goes_on t label next answer);
      }
      turns_same P R f Strays s k = k
      turns_same P R f (Faults at) s k = k
      turns_same P R f Missing s k = tt

      pub safe_same : (n : ℕ) (s : BlockState) → Safe w one places B heads a Q n s → Safe w other places B heads a Q n s
      safe_same zero s k = now_same s k
      safe_same (suc n) s k =
          (now_same s k.0, turns_same (Safe w one places B heads a Q n) (Safe w other places B heads a Q n) (safe_same n) (il_move w.labels places B s) s k.1)

-- so for whole functions, where each signature is the same as the other
pub function_same : (w : World) (S T : Signature) → IsTrue (same_signature S T) → IsTrue (same_signature T S) → (site : Site) (places : ℕ → ℕ) (B : List Block) (heads : List LoopHead) (entry : ℕ)
    → KeepsFunction w (record { site = site; signature = S }) places B heads entry → KeepsFunction w (record { site = site; signature = T }) places B heads entry
function_same w S T is back site places B heads entry keep ν F s begins enters =
    let same : arguments_at S s.sp s.memory ≡ arguments_at T s.sp s.memory = ap (words_at s.memory (wrap (s.sp + 4))) (long w S T is) in
    let own : EntersAt w S ν s.sp (arguments_at S s.sp s.memory) s.memory F =
    subst (λ args. EntersAt w S ν s.sp args s.memory F) (sym same) (enters_at_same w T S back ν s.sp (arguments_at T s.sp s.memory) s.memory F enters) in
    let r = keep ν F s begins own in
    record {
      activation = r.activation;
      sp = r.sp;
      back = r.back;
      rest = r.rest;
      safe = λ n. safe_same w S T is site places B heads r.activation (λ t. ⊥) n s (r.safe n);
      leaves = λ t ret.
          subst (λ args. LeavesAt w T ν s.sp args t.rv t.memory F) same
          (leaves_at_same w S T is ν s.sp (arguments_at S s.sp s.memory) t.rv t.memory F (r.leaves t (return_same w T S back site r.activation t ret)));
    }
