-- Rows of cells by body: made cell by cell; at the fresh start; moved as the words before and after an event tell.
use Prim.Native.Nat.{ℕ, zero, suc, ◌+◌, ◌≤◌, ◌<◌}
use mathlib.Core.Path.{◌≡◌, refl, sym, ap, ◌∙◌}
use mathlib.Core.Bool.{Bool, true, false, cond, ◌&&◌, ◌||◌}
use mathlib.Core.List.{List, [], ◌∷◌, ◌++◌, map}
use Rattle.std.specs.Prelude.{Some, None}
use Rattle.std.specs.List.{range_with_len}
use Rattle.std.proofs.lemmas.List.FromFn.{fill_by_all, take-map-range_with_len}
use native.Mathlib.Omega.{arith}
use lib.Dec.{eqb, ltb}
use lib.ListN.{length, get_or, take, drop, set, length-take}
use lib.Seq.{take-suc-set, drop-cons}
use borrow.Author.Tests.{ne_eqb}
use Rattle.number.proofs.Cases.{by_eq}
use Rattle.cell.specs.declared.Cell.{Cell}
use Rattle.word.specs.Word.{has, union}
use Rattle.word.proofs.Theorems.{has_union}
use Rattle.plan.specs.declared.Plan.{Plan}
use Rattle.scheduler.specs.Status.{done}
use Rattle.scheduler.specs.Event.{Event, is_tick}
use Rattle.machine.specs.Model.{Model, Outcome, no_rank}
use Rattle.machine.specs.Machine.{fresh_model}
use Rattle.deadlines.specs.Activation.{chains_to}
use Rattle.deadlines.specs.DeadlineCells.{moved_cell, row_of}
use Rattle.deadlines.specs.Words.{active_at, plan_rank, ready_by, ends_by, step_row_by, fresh_cell_by}
use Rattle.misses.specs.Change.{active_word, chained_body, body_at, is_body, change_by, cell_after, cell_by, blank_cell, row_by, fresh_cell_in, fresh_row_by}

row_map : (f : ℕ → Cell) (a n : ℕ) → row_of f a n ≡ map f (range_with_len a n)
unfolding row_of
row_map f a zero = refl
row_map f a (suc n) =
    ap (λ (l : List Cell). f a ∷ l) (ap (λ (k : ℕ). row_of f k n) (omega arith) ∙ row_map f (a + 1) n)

-- a row that was made cell by cell begins with the cells of n bodies
pub row_filled : (f : ℕ → Cell) (xs : List Cell) (m n : ℕ) → length xs ≡ m → n ≤ m
    → ((k : ℕ) → k < m → get_or xs k blank_cell ≡ f k) → take n xs ≡ row_of f 0 n
row_filled f xs m n long few each =
    ap (take n) (fill_by_all f xs m blank_cell long each)
    ∙ take-map-range_with_len f 0 m n few ∙ sym (row_map f 0 n)

-- one cell more
row_more : (f : ℕ → Cell) (a n : ℕ) → row_of f a (suc n) ≡ row_of f a n ++ f (a + n) ∷ []
unfolding row_of
row_more f a zero = ap (λ (k : ℕ). f k ∷ []) (omega arith)
row_more f a (suc n) =
    ap (λ (l : List Cell). f a ∷ l)
    (row_more f (suc a) n ∙ ap (λ (k : ℕ). row_of f (suc a) n ++ f k ∷ []) (omega arith))

-- nothing is filled
pub row_start : (f : ℕ → Cell) (xs : List Cell) → take 0 xs ≡ row_of f 0 0
unfolding row_of
row_start f xs = refl

-- a row that is filled up to the place b, and then there
pub row_step : (f : ℕ → Cell) (b : ℕ) (xs : List Cell) (x : Cell) → b < length xs → take b xs ≡ row_of f 0 b → x ≡ f b
    → take (b + 1) (set xs b x) ≡ row_of f 0 (b + 1)
row_step f b xs x within filled same =
    let one : b + 1 ≡ suc b = omega arith in
    rw one
    (take-suc-set xs b x within
    ∙ ap (λ (l : List Cell). l ++ x ∷ []) filled
    ∙ ap (λ (y : Cell). row_of f 0 b ++ y ∷ []) same
    ∙ sym (row_more f 0 b ∙ ap (λ (k : ℕ). row_of f 0 b ++ f k ∷ []) (omega arith)))

pub row_length : (f : ℕ → Cell) (a n : ℕ) → length (row_of f a n) ≡ n
unfolding row_of
row_length f a zero = refl
row_length f a (suc n) = ap suc (row_length f (suc a) n)

-- what begins with a row of n cells has as many
pub row_wide : (f : ℕ → Cell) (n : ℕ) (xs : List Cell) → take n xs ≡ row_of f 0 n → n ≤ length xs
row_wide f n xs e = omega (arith, length-take n xs, ap length e, row_length f 0 n)

row_same : (f g : ℕ → Cell) → ((b : ℕ) → f b ≡ g b) → (a n : ℕ) → row_of f a n ≡ row_of g a n
unfolding row_of
row_same f g same a zero = refl
row_same f g same a (suc n) =
    ap (λ (x : Cell). x ∷ row_of f (suc a) n) (same a) ∙ ap (λ (l : List Cell). g a ∷ l) (row_same f g same (suc a) n)

-- who is active, by one word for three
active_has : (m : Model) (r : ℕ) → has (active_word m) r ≡ active_at m r
active_has m r =
    has_union m.core.request (union m.core.started m.core.aside) r
    ∙ ap (λ (t : Bool). has m.core.request r || t) (has_union m.core.started m.core.aside r)

pub fresh_row_by_lem : (p : Plan) (ds : List ℕ) (n : ℕ)
    → fresh_row_by (active_word (fresh_model p)) p.rank ds n ≡ row_of (fresh_cell_by p ds) 0 n
fresh_row_by_lem p ds n =
    row_same (λ b. fresh_cell_in (has (active_word (fresh_model p)) (get_or p.rank b 0)) (get_or ds b 0)) (fresh_cell_by p ds)
    (λ b. ap (λ (t : Bool). fresh_cell_in t (get_or ds b 0)) (active_has (fresh_model p) (plan_rank p b))) 0 n

and_false : (t s : Bool) → t && (s && false) ≡ false
and_false true true = refl
and_false true false = refl
and_false false s = refl

-- a body's number is not the one that says nobody
module _ (b : ℕ) (body : b < 32) where
  nobody : eqb no_rank b ≡ false
  nobody = ne_eqb no_rank b (λ e. absurd (omega arith))

  same_body : (t s : Bool) → is_body (cond (t && s) (Some b) None) b ≡ t && (s && eqb b b)
  same_body true true = refl
  same_body true false = refl
  same_body false s = refl

  other_body : (u : Bool) (r : ℕ) → (r ≡ b → ⊥) → is_body (cond u (Some r) None) b ≡ false
  other_body true r n = ne_eqb r b n
  other_body false r n = refl

  chained_some : (r st : ℕ) (e : Event)
      → is_body (chained_body (Some r) e st) b ≡ chains_to b e && (eqb st done && eqb r b)
  unfolding chained_body
  chained_some r st e =
      by_eq r b
      (λ h. rw h (same_body (chains_to b e) (eqb st done)))
      (λ n. other_body (chains_to r e && eqb st done) r n
      ∙ sym (ap (λ (t : Bool). chains_to b e && (eqb st done && t)) (ne_eqb r b n)
      ∙ and_false (chains_to b e) (eqb st done)))

  -- t: somebody runs
  chained_by : (t : Bool) (r st : ℕ) (e : Event)
      → is_body (chained_body (cond t (Some r) None) e st) b
      ≡ chains_to b e && (eqb st done && eqb (cond t r no_rank) b)
  unfolding chained_body
  chained_by true r st e = chained_some r st e
  chained_by false r st e =
      sym (ap (λ (t : Bool). chains_to b e && (eqb st done && t)) nobody ∙ and_false (chains_to b e) (eqb st done))

-- the event e, which met m and handed o back
module _ (p : Plan) (ds : List ℕ) (m : Model) (e : Event) (o : Outcome) where
  cell_by_lem : (b D : ℕ) (c : Cell) → b < 32
      → cell_by (change_by p.body m e o) b (plan_rank p b) D c
      ≡ moved_cell D (ready_by p m e o b) (ends_by p m e o b) (is_tick e) c
  cell_by_lem b D c body =
      ap (λ (t : Bool). cell_after D t (has (active_word o.model) (plan_rank p b))
      (is_body (chained_body (body_at p.body m.core.runner) e o.status) b) (is_tick e) c) (active_has m (plan_rank p b))
      ∙ ap (λ (t : Bool). cell_after D (active_at m (plan_rank p b)) t
      (is_body (chained_body (body_at p.body m.core.runner) e o.status) b) (is_tick e) c) (active_has o.model (plan_rank p b))
      ∙ ap (λ (t : Bool). cell_after D (active_at m (plan_rank p b)) (active_at o.model (plan_rank p b)) t (is_tick e) c)
      (chained_by b body (ltb m.core.runner 32) (get_or p.body m.core.runner 0) o.status e)

  module _ (xs : List Cell) where
    abbrev moved : ℕ → Cell
    moved b = cell_by (change_by p.body m e o) b (plan_rank p b) (get_or ds b 0) (get_or xs b blank_cell)

    row_by_from : (n a : ℕ) → a + n ≤ 32 → a + n ≤ length xs
        → row_of moved a n ≡ step_row_by p ds m e o a (take n (drop a xs))
    unfolding row_of step_row_by
    row_by_from zero a few fits = refl
    row_by_from (suc n) a few fits =
        ap (λ (l : List Cell). moved a ∷ l) (row_by_from n (suc a) (omega arith) (omega arith))
        ∙ ap (λ (x : Cell). x ∷ step_row_by p ds m e o (suc a) (take n (drop (suc a) xs)))
        (cell_by_lem a (get_or ds a 0) (get_or xs a blank_cell) (omega arith))
        ∙ ap (λ (l : List Cell). step_row_by p ds m e o a (take (suc n) l)) (sym (drop-cons xs a blank_cell (omega arith)))

    pub row_by_words : (n : ℕ) → n ≤ 32 → n ≤ length xs
        → row_by (change_by p.body m e o) p.rank ds n xs ≡ step_row_by p ds m e o 0 (take n xs)
    row_by_words n few fits = row_by_from n 0 (omega arith) (omega arith)
