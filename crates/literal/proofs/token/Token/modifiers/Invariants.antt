use Rattle.std.specs.Str.Iter.{char_indices_rest, char_indices_offset}
use Rattle.literal.proofs.Marks.{Left}
use Rattle.literal.proofs.token.Token.modifiers.Given as goal

abbrev pub invariant-loop-at : goal.invariant-loop-at
invariant-loop-at l =
    (goal.iterator-loop-at).can_next l.at-iterator × (goal.iterator-loop-at).is_finite l.at-iterator
    × Left l.self.text.now (char_indices_offset l.at-iterator) l.case_insensitive l.dot_matches_new_line (char_indices_rest l.at-iterator)
