-- Requests that were taken, one after another.
use Rattle.std.proofs.Common.{◌≡◌, ℕ, suc, ◌+◌, ◌-◌, ◌<◌, List, [], ◌∷◌, ◌++◌, None, Result, Ok, Err, flat_map, refl, sym, ap, subst, ◌∙◌, append_assoc, append-nil, inl, inr, arith}
use Rattle.std.specs.Prelude.{ℤ, false, OnOk, IfErr, IfOk}
use Rattle.std.specs.List.{range_with_len}
use Rattle.std.proofs.Math.Numerals.{add-one}
use Rattle.act_bodies.specs.declared.key.Key.{Key}
use Rattle.act_model.specs.declared.entry.Entry.{Entry}
use Rattle.act_model.specs.declared.reply.Refusal.{Refusal}
use Rattle.act_model.specs.declared.reply.Reply.{Reply}
use Rattle.act_model.specs.declared.reply.Reply.TheVariants.{Done, Refused}
use Rattle.act_model.specs.declared.request.Request.{Request}
use Rattle.act_model.specs.Replies.{refusal_text}
use Rattle.act_model.specs.Step.{step}
use Rattle.act_model.specs.Turns.{Answers}
use Rattle.office_workload.specs.Generating.{number_after, number_at}
use Rattle.office_workload.specs.Running.{AreTaken, IsRefusedOne, reply_result, is_no_memory}
use Rattle.office_workload.specs.Summaries.{summary, summary_at, told_of}
use Rattle.office_workload.specs.Workloads.{officer, moment, submission, designation, object_requests, unless_refused, history_after, workload, station_request}

-- ---- one request

module _ (founder : Key) (past after : List Entry) (q : Request) (is : founder ≡ officer) where
  stepped_as : (reply : Reply) → step founder None past q moment ≡ (reply, after) → step officer None past q moment ≡ (reply, after)
  stepped_as reply stepped = subst (λ (k : Key). step k None past q moment ≡ (reply, after)) is stepped

  pub taken_one : (text : List ℕ) → Answers founder None past q moment (Done text) after → AreTaken past (q ∷ []) after
  unfolding history_after
  taken_one text (inl stepped) = λ rest. ap (λ (s : Reply × List Entry). unless_refused s (λ h. history_after h rest)) (stepped_as (Done text) stepped)
  taken_one text (inr both) = let no = both.0 in absurd cc

  pub refused_one : (refusal : Refusal) → Answers founder None past q moment (Refused refusal) after → IsRefusedOne past (q ∷ []) refusal
  unfolding history_after
  refused_one refusal (inl stepped) = inr (λ rest. ap (λ (s : Reply × List Entry). unless_refused s (λ h. history_after h rest)) (stepped_as (Refused refusal) stepped))
  refused_one refusal (inr both) = inl (let same = both.0 in cc)

  taken_reply : (reply : Reply) → Answers founder None past q moment reply after → OnOk (reply_result reply) (AreTaken past (q ∷ []) after)
  taken_reply (Done text) answers = taken_one text answers
  taken_reply (Refused refusal) answers = tt

  refused_reply : (reply : Reply) → Answers founder None past q moment reply after → IfErr (reply_result reply) (IsRefusedOne past (q ∷ []))
  refused_reply (Done text) answers = tt
  refused_reply (Refused refusal) answers = refused_one refusal answers

  pub taken_by : (reading : ℤ) (reply : Reply) (result : Result (Unit {0}) Refusal) → reading ≡ moment → result ≡ reply_result reply → Answers founder None past q reading reply after → OnOk result (AreTaken past (q ∷ []) after)
  taken_by reading reply result at ends answers =
      subst (λ (r : Result (Unit {0}) Refusal). OnOk r (AreTaken past (q ∷ []) after)) (sym ends)
      (taken_reply reply (subst (λ (t : ℤ). Answers founder None past q t reply after) at answers))

  pub refused_by : (reading : ℤ) (reply : Reply) (result : Result (Unit {0}) Refusal) → reading ≡ moment → result ≡ reply_result reply → Answers founder None past q reading reply after → IfErr result (IsRefusedOne past (q ∷ []))
  refused_by reading reply result at ends answers =
      subst (λ (r : Result (Unit {0}) Refusal). IfErr r (IsRefusedOne past (q ∷ []))) (sym ends)
      (refused_reply reply (subst (λ (t : ℤ). Answers founder None past q t reply after) at answers))

pub if_err : (result : Result (Unit {0}) Refusal) (P Q : Refusal → Type 0) → ((refusal : Refusal) → P refusal → Q refusal) → IfErr result P → IfErr result Q
if_err (Ok reply_result) P Q leads is = is
if_err (Err refusal) P Q leads is = leads refusal is

-- ---- requests after requests

module _ (past between : List Entry) (first second : List Request) (taken : AreTaken past first between) where
  pub taken_both : (after : List Entry) → AreTaken between second after → AreTaken past (first ++ second) after
  taken_both after next rest = ap (history_after past) (append_assoc first second rest) ∙ (taken (second ++ rest) ∙ next rest)

  pub refused_later : (refusal : Refusal) → IsRefusedOne between second refusal → IsRefusedOne past (first ++ second) refusal
  refused_later refusal (inl none) = inl none
  refused_later refusal (inr is) = inr (λ rest. ap (history_after past) (append_assoc first second rest) ∙ (taken (second ++ rest) ∙ is rest))

pub refused_first : (past : List Entry) (first second : List Request) (refusal : Refusal) → IsRefusedOne past first refusal → IsRefusedOne past (first ++ second) refusal
refused_first past first second refusal (inl none) = inl none
refused_first past first second refusal (inr is) = inr (λ rest. ap (history_after past) (append_assoc first second rest) ∙ is (second ++ rest))

-- ---- the requests of objects

-- what is left of the requests of this many objects, once those of the first ones were taken
abbrev pub left_after : (seed before left : ℕ) → List Request
left_after seed before left = flat_map (object_requests seed) (range_with_len (before + 1) left)

-- the requests of all objects come to what those that are left come to from here
abbrev pub Goes : (seed count : ℕ) → List Entry → ℕ → List Entry → Type 0
Goes seed count past before now =
    (rest : List Request) → history_after past (left_after seed 0 count ++ rest) ≡ history_after now (left_after seed before (count - before) ++ rest)

number_next : (seed before : ℕ) → number_at seed (before + 1) ≡ number_after (number_at seed before)
unfolding number_at
number_next seed before = rw (add-one before) refl

left_next : (seed before left : ℕ) (x : ℕ) → x ≡ number_after (number_at seed before) → (rest : List Request)
    → left_after seed before (suc left) ++ rest ≡ (submission (before + 1) x ∷ designation (before + 1) ∷ []) ++ (left_after seed (before + 1) left ++ rest)
left_next seed before left x is rest =
    ap (λ (y : ℕ). submission (before + 1) y ∷ designation (before + 1) ∷ (left_after seed (before + 1) left ++ rest)) (number_next seed before ∙ sym is)

module _ (seed count : ℕ) (past now : List Entry) (before : ℕ) (goes : Goes seed count past before now) (more : before < count) (x : ℕ) (is : x ≡ number_after (number_at seed before)) where
  one_left : (rest : List Request)
      → history_after past (left_after seed 0 count ++ rest) ≡ history_after now ((submission (before + 1) x ∷ designation (before + 1) ∷ []) ++ (left_after seed (before + 1) (count - (before + 1)) ++ rest))
  one_left rest =
      let left : count - before ≡ suc (count - (before + 1)) = omega (arith, more) in
      goes rest ∙ (ap (λ (n : ℕ). history_after now (left_after seed before n ++ rest)) left ∙ ap (history_after now) (left_next seed before (count - (before + 1)) x is rest))

  pub goes_on : (new : List Entry) → AreTaken now (submission (before + 1) x ∷ designation (before + 1) ∷ []) new → Goes seed count past (before + 1) new
  goes_on new taken rest = one_left rest ∙ taken (left_after seed (before + 1) (count - (before + 1)) ++ rest)

  pub stops : (refusal : Refusal) → IsRefusedOne now (submission (before + 1) x ∷ designation (before + 1) ∷ []) refusal → IsRefusedOne past (left_after seed 0 count) refusal
  stops refusal (inl none) = inl none
  stops refusal (inr refused) = inr (λ rest. one_left rest ∙ refused (left_after seed (before + 1) (count - (before + 1)) ++ rest))

  pub number_is : x ≡ number_at seed (before + 1)
  number_is = is ∙ sym (number_next seed before)

-- ---- the whole workload

module _ (seed count : ℕ) (past : List Entry) where
  module _ (between : List Entry) (first : AreTaken past (station_request ∷ []) between) where
    pub all_taken : (after : List Entry) → AreTaken between (left_after seed 0 count) after → AreTaken past (workload seed count) after
    unfolding workload
    all_taken after next = taken_both past between (station_request ∷ []) (left_after seed 0 count) first after next

    pub object_refused : (refusal : Refusal) → IsRefusedOne between (left_after seed 0 count) refusal → IsRefusedOne past (workload seed count) refusal
    unfolding workload
    object_refused refusal is = refused_later past between (station_request ∷ []) (left_after seed 0 count) first refusal is

  pub station_refused : (refusal : Refusal) → IsRefusedOne past (station_request ∷ []) refusal → IsRefusedOne past (workload seed count) refusal
  unfolding workload
  station_refused refusal is = refused_first past (station_request ∷ []) (left_after seed 0 count) refusal is

  pub comes_to : (after : List Entry) → AreTaken past (workload seed count) after → history_after past (workload seed count) ≡ Ok after
  unfolding history_after
  comes_to after taken = ap (history_after past) (sym (append-nil (workload seed count))) ∙ taken []

-- what is told where all requests were taken
pub told_taken : (seed count : ℕ) (past : List Entry) → AreTaken [] (workload seed count) past → summary seed count ≡ summary_at seed count past
unfolding summary
told_taken seed count past taken = ap (told_of seed count) (comes_to seed count [] past taken)

-- what is told where one was refused
pub told_refused : (seed count : ℕ) (refusal : Refusal) → IsRefusedOne [] (workload seed count) refusal → is_no_memory refusal ≡ false → summary seed count ≡ refusal_text refusal
unfolding summary
told_refused seed count refusal (inl none) other = let no = sym (ap is_no_memory none) ∙ other in absurd cc
told_refused seed count refusal (inr refused) other =
    ap (told_of seed count) (ap (history_after []) (sym (append-nil (workload seed count))) ∙ refused [])

-- ---- the summary's text

pub told_all : {E : Type 0} (result : Result (List ℕ) E) (seed count : ℕ) (first past now : List Entry) → first ≡ [] → now ≡ past → AreTaken first (workload seed count) past
    → IfOk result (λ text. text ≡ summary_at seed count now) → IfOk result (λ text. text ≡ summary seed count)
told_all result seed count first past now empty same taken =
    subst (λ (told : List ℕ). IfOk result (λ text. text ≡ told))
    (ap (summary_at seed count) same ∙ sym (told_taken seed count past (subst (λ (h : List Entry). AreTaken h (workload seed count) past) empty taken)))

pub told_else : {E : Type 0} (result : Result (List ℕ) E) (seed count : ℕ) (first : List Entry) (refusal : Refusal) → first ≡ [] → IsRefusedOne first (workload seed count) refusal
    → IfOk result (λ text. text ≡ refusal_text refusal) → IfOk result (λ _. is_no_memory refusal ≡ false) → IfOk result (λ text. text ≡ summary seed count)
told_else (Ok text) seed count first refusal empty refused is other =
    is ∙ sym (told_refused seed count refusal (subst (λ (h : List Entry). IsRefusedOne h (workload seed count) refusal) empty refused) other)
told_else (Err error) seed count first refusal empty refused is other = tt
