-- What a sum of flags says: each flag that was added up.
use Rattle.std.proofs.Common.{◌≡◌, ℕ, Bool, not, eqb, arith}
use lib.Bits.{bit_and}
use Rattle.tree.specs.Labels.{Flags, flag_number}

abbrev pub flagged : ℕ → ℕ → Bool
flagged flag n = not (eqb (bit_and n flag) 0)

module _ (f : Flags) (d : Bool) where
  pub unsigned_read : flagged 1 (flag_number f d) ≡ f.unsigned
  unsigned_read = grind arith

  pub insensitive_read : flagged 2 (flag_number f d) ≡ f.case_insensitive
  insensitive_read = grind arith

  pub dot_read : flagged 4 (flag_number f d) ≡ f.dot_matches_new_line
  dot_read = grind arith

  pub wildcard_read : flagged 8 (flag_number f d) ≡ f.wildcard
  wildcard_read = grind arith

  pub object_read : flagged 16 (flag_number f d) ≡ f.object
  object_read = grind arith

  pub decoded_read : flagged 32 (flag_number f d) ≡ d
  decoded_read = grind arith
