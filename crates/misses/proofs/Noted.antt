-- The misses noted one by one, those of a row of cells, and the bytes of those that are listed.
--
--   noted_blank                  no miss yet
--   noted_listed, noted_counted  a miss more, with a place for it and without
--   note_step                    the matches of a row, by one cell more
--   list_short, list_whole       what the list is left as
use Prim.Native.Nat.{ℕ, zero, suc, ◌+◌, ◌*◌, ◌≤◌, ◌<◌, min}
use mathlib.Core.Path.{◌≡◌, refl, sym, ap, ◌∙◌, subst}
use mathlib.Core.Bool.{Bool, true, false, cond}
use mathlib.Core.List.{List, [], ◌∷◌, ◌++◌, append_assoc, append-nil}
use native.Mathlib.Omega.{arith}
use native.Mathlib.Nat.{zero-add}
use native.Mathlib.Numerals.{add-one}
use lib.ListN.{length, get_or, take, drop, set, replicate, length-append, length-set}
use lib.Seq.{take-suc, length-take-le, drop_at, take-append-add, drop-append-add}
use borrow.Rule.Slice.PartMut.{put_mid}
use Rattle.std.specs.List.{All}
use Rattle.std.proofs.lemmas.List.{length-replicate, get_or-replicate}
use Rattle.std.proofs.lemmas.List.Elements.{All-set}
use Rattle.number.specs.Output.{written, laid}
use Rattle.number.proofs.Laying.{laid_zero}
use Rattle.number.proofs.Theorems.{written_no_room}
use Rattle.cell.specs.declared.Cell.{Cell}
use Rattle.cell.specs.Cell.{tick_cell}
use Rattle.deadlines.specs.Miss.{Miss}
use Rattle.deadlines.specs.DeadlineCells.{matches_of}
use Rattle.deadlines.specs.Report.{most_listed, first_misses, miss_bytes, bytes_needed}
use Rattle.kernel.proofs.Passes.Bytes.{laid_mid}
use Rattle.deadlines.proofs.Theorems.{bytes_needed_lem}
use Rattle.misses.specs.declared.list.Misses.{Misses}
use Rattle.misses.specs.Noted.{noted_one, noted, IsRow, bytes_of, bytes_in, Noted, NotesMore}
use Rattle.misses.proofs.Laid.{bytes_length, noted_more, one_laid, one_left, noted_first}

-- nothing more
pub notes_none : (x : Misses) → NotesMore x x []
notes_none x before g = subst (Noted x) (sym (append-nil before)) g

pub notes_both : {x y z : Misses} (ms ks : List Miss) → NotesMore x y ms → NotesMore y z ks → NotesMore x z (ms ++ ks)
notes_both {x} {y} {z} ms ks f g before h = subst (Noted z) (append_assoc before ms ks) (g (before ++ ms) (f before h))

-- a row put in the place of one of the rows rs
row_laid : (rs : List (List ℕ)) (i : ℕ) (r : List ℕ) → All IsRow rs → i < length rs → IsRow r
    → bytes_of (set rs i r) ≡ laid (3 * i) r (bytes_of rs)
unfolding laid
row_laid [] i r each inside row = absurd (omega arith)
row_laid (x ∷ xs) zero r each inside row =
    let long : length x ≡ length r = each 0 [] (omega arith) ∙ sym row in
    ap (λ (l : List ℕ). r ++ l) (sym (rw zero-add (drop_at x (bytes_of xs) (length r) long)))
row_laid (x ∷ xs) (suc i) r each inside row =
    let ys = bytes_of xs in
    let long : length x ≡ 3 = each 0 [] (omega arith) in
    let front : 3 * suc i ≡ length x + 3 * i = omega arith in
    let behind : 3 * suc i + length r ≡ length x + (3 * i + length r) = omega arith in
    ap (λ (l : List ℕ). x ++ l) (row_laid xs i r (λ k d h. each (suc k) d (omega arith)) (omega arith) row)
    ∙ sym (append_assoc x (take (3 * i) ys) (r ++ drop (3 * i + length r) ys))
    ∙ sym (ap (λ (n : ℕ). take (3 * suc i) (x ++ ys) ++ (r ++ drop n (x ++ ys))) behind
    ∙ ap (λ (n : ℕ). take n (x ++ ys) ++ (r ++ drop (length x + (3 * i + length r)) (x ++ ys))) front
    ∙ ap (λ (l : List ℕ). l ++ (r ++ drop (length x + (3 * i + length r)) (x ++ ys))) (take-append-add x ys (3 * i))
    ∙ ap (λ (l : List ℕ). (x ++ take (3 * i) ys) ++ (r ++ l)) (drop-append-add x ys (3 * i + length r)))

abbrev pub blank_row : List ℕ
blank_row = 0 ∷ 0 ∷ 0 ∷ []

-- no miss yet
pub noted_blank : Noted (record { count = 0; listed = replicate most_listed blank_row }) []
unfolding noted
noted_blank =
    record {
      room = length-replicate most_listed blank_row;
      rows = λ k d h. ap length (get_or-replicate most_listed k blank_row d (rw length-replicate at h));
      counted = refl;
      blank = bytes_of (replicate most_listed blank_row);
      size = refl;
      bytes = refl;
    }

-- one miss more
module _ (x : Misses) (m : Miss) where
  -- with its bytes in the row r
  pub noted_listed : {r : List ℕ} → x.count < most_listed → r ≡ miss_bytes (m ∷ [])
      → NotesMore x (record { count = x.count + 1; listed = set x.listed x.count r }) (m ∷ [])
  noted_listed {r} few is before g =
      let row : IsRow r = ap length is ∙ bytes_length (m ∷ []) in
      let here : x.count ≡ 0 + length before = omega (arith, g.counted) in
      record {
        room = length-set x.listed x.count r ∙ g.room;
        rows = All-set IsRow x.listed x.count r row g.rows;
        counted = omega (arith, g.counted, length-append before (m ∷ []));
        blank = g.blank;
        size = g.size;
        bytes =
            row_laid x.listed x.count r g.rows (omega (arith, g.room)) row
            ∙ ap (λ (l : List ℕ). laid (3 * x.count) l (bytes_in x)) is
            ∙ sym (one_laid x.count m (bytes_in x) few)
            ∙ ap (noted_one x.count m) g.bytes
            ∙ ap (λ (n : ℕ). noted_one n m (noted 0 before g.blank)) here
            ∙ sym (noted_more 0 before m g.blank);
      }

  -- without a place for it
  pub noted_counted : most_listed ≤ x.count → NotesMore x (record { count = x.count + 1; listed = x.listed }) (m ∷ [])
  noted_counted many before g =
      let here : x.count ≡ 0 + length before = omega (arith, g.counted) in
      record {
        room = g.room;
        rows = g.rows;
        counted = omega (arith, g.counted, length-append before (m ∷ []));
        blank = g.blank;
        size = g.size;
        bytes =
            sym (one_left x.count m (bytes_in x) many)
            ∙ ap (noted_one x.count m) g.bytes
            ∙ ap (λ (n : ℕ). noted_one n m (noted 0 before g.blank)) here
            ∙ sym (noted_more 0 before m g.blank);
      }

-- the matches at the k-th Tick of a row and of one behind it
matches_append : (k b : ℕ) (xs ys : List Cell) → matches_of k b (xs ++ ys) ≡ matches_of k b xs ++ matches_of k (b + length xs) ys
unfolding matches_of
matches_append k b [] ys = ap (λ (i : ℕ). matches_of k i ys) (omega arith)
matches_append k b (x ∷ xs) ys =
    let m : Miss = record { tick = k; body = b } in
    let rest : matches_of k (suc b) (xs ++ ys) ≡ matches_of k (suc b) xs ++ matches_of k (b + suc (length xs)) ys
    = matches_append k (suc b) xs ys
    ∙ ap (λ (i : ℕ). matches_of k (suc b) xs ++ matches_of k i ys) (omega arith) in
    ap (λ (l : List Miss). cond (tick_cell x).matched (m ∷ l) l) rest
    ∙ front (tick_cell x).matched m (matches_of k (suc b) xs) (matches_of k (b + suc (length xs)) ys)
  where
    front : (t : Bool) (m : Miss) (ms ks : List Miss) → cond t (m ∷ (ms ++ ks)) (ms ++ ks) ≡ cond t (m ∷ ms) ms ++ ks
    front true m ms ks = refl
    front false m ms ks = refl

-- the cell of the body i, behind the others
matches_more : (k : ℕ) (xs : List Cell) (i : ℕ) (c : Cell) → i < length xs
    → matches_of k 0 (take (i + 1) xs)
    ≡ matches_of k 0 (take i xs) ++ cond (tick_cell (get_or xs i c)).matched (record { tick = k; body = i } ∷ []) []
unfolding matches_of
matches_more k xs i c h =
    ap (matches_of k 0) (rw add-one (take-suc xs i c h))
    ∙ matches_append k 0 (take i xs) (get_or xs i c ∷ [])
    ∙ ap (λ (n : ℕ). matches_of k 0 (take i xs) ++ matches_of k n (get_or xs i c ∷ []))
    (zero-add _ ∙ length-take-le i xs (omega arith))

-- the step of a loop over the cells xs; t: the cell of i matches
pub note_step : {x y z : Misses} (k : ℕ) (xs : List Cell) (i : ℕ) (c : Cell) {t : Bool} → i < length xs
    → (tick_cell (get_or xs i c)).matched ≡ t
    → NotesMore x y (matches_of k 0 (take i xs))
    → NotesMore y z (cond t (record { tick = k; body = i } ∷ []) [])
    → NotesMore x z (matches_of k 0 (take (i + 1) xs))
note_step {x} {y} {z} k xs i c {t} h tells so_far one =
    let all : matches_of k 0 (take (i + 1) xs)
    ≡ matches_of k 0 (take i xs) ++ cond t (record { tick = k; body = i } ∷ []) []
    = matches_more k xs i c h
    ∙ ap (λ (b : Bool). matches_of k 0 (take i xs) ++ cond b (record { tick = k; body = i } ∷ []) []) tells in
    subst (NotesMore x z) (sym all) (notes_both _ _ so_far one)

-- n misses are listed in x, which has the misses ms
module _ (x : Misses) (ms : List Miss) (g : Noted x ms) (n : ℕ) (listed : n ≡ min x.count most_listed) where
  need : 3 * n ≡ bytes_needed ms
  need = omega (arith, g.counted)

  -- too short for them
  pub list_short : (d : List ℕ) → length d < 3 * n → d ≡ written (miss_bytes (first_misses ms)) d
  list_short d short =
      sym (written_no_room (miss_bytes (first_misses ms)) d (omega (arith, bytes_needed_lem ms, need)))

  -- the bytes at the front of x are those of the first misses
  pub list_whole : (d : List ℕ) {part : List ℕ} → 3 * n ≤ length d → part ≡ take (3 * n) (bytes_in x)
      → put_mid 0 (3 * n) d part ≡ written (miss_bytes (first_misses ms)) d
  list_whole d {part} fits copied =
      let told : part ≡ miss_bytes (first_misses ms)
      = copied
      ∙ ap (λ (k : ℕ). take k (bytes_in x)) need
      ∙ ap (take (bytes_needed ms)) g.bytes
      ∙ noted_first ms g.blank g.size in
      laid_mid 0 (3 * n) part d (ap length told ∙ bytes_needed_lem ms ∙ sym need)
      ∙ ap (λ (l : List ℕ). laid 0 l d) told
      ∙ sym (laid_zero (miss_bytes (first_misses ms)) d (omega (arith, bytes_needed_lem ms, need)))
