-- `hash_after` meets its contract: the product of two numbers below the prime fits.
use native.Mathlib.Omega.{arith}
use Rattle.oil.proofs.Hash.{product_small}
use Rattle.oil.proofs.hashing.hash_after.Goals as goal

pub overflow_mul-result : goal.overflow_mul-result
overflow_mul-result c = let p = product_small c.args.h c.args.key c.requires.1 c.requires.0 in
    omega (arith, p)

pub overflow_add-result : goal.overflow_add-result
overflow_add-result c = let p = product_small c.args.h c.args.key c.requires.1 c.requires.0 in
    omega (arith, p)
