-- Lists that agree on their first bytes: they agree on fewer, and from a place on, and have those bytes alike.
use Prim.Native.Nat.{ℕ, zero, suc, ◌+◌, min, ◌≤◌, ◌<◌}
use mathlib.Core.Path.{◌≡◌, sym, ap, ◌∙◌}
use mathlib.Core.List.{List, [], ◌∷◌}
use native.Mathlib.Omega.{arith}
use native.Mathlib.Nat.{zero-add, suc-add}
use lib.ListN.{length, take, drop, length-take}
use lib.Seq.{take-nil, take-take, take_all}

-- what lies at a place of a list's first bytes
pub drop_take : (at n : ℕ) (l : List ℕ) → drop at (take (at + n) l) ≡ take n (drop at l)
drop_take zero n l = rw zero-add
drop_take (suc at) n [] = rw (suc-add, take-nil n)
drop_take (suc at) n (x ∷ xs) = rw suc-add (drop_take at n xs)

module _ (bs cs : List ℕ) where
  pub agree_fewer : (m n : ℕ) → m ≤ n → take n cs ≡ take n bs → take m cs ≡ take m bs
  agree_fewer m n h agree = sym (take-take m n cs h) ∙ ap (take m) agree ∙ take-take m n bs h

  pub agree_from : (at n : ℕ) → take (at + n) cs ≡ take (at + n) bs → take n (drop at cs) ≡ take n (drop at bs)
  agree_from at n agree = sym (drop_take at n cs) ∙ ap (drop at) agree ∙ drop_take at n bs

  pub agree_long : (at n : ℕ) → at < length bs → at < n → take n cs ≡ take n bs → at < length cs
  agree_long at n h m agree =
      let e : min n (length cs) ≡ min n (length bs) = simp length-take at (ap length agree) in omega arith

  -- on more bytes than one of them has: they are the same
  pub agree_whole : (n : ℕ) → length bs < n → take n cs ≡ take n bs → cs ≡ bs
  agree_whole n h agree =
      let e : min n (length cs) ≡ min n (length bs) = simp length-take at (ap length agree) in
      sym (take_all n cs (omega arith)) ∙ agree ∙ take_all n bs (omega arith)
