use Rattle.std.proofs.Common.{◌≡◌, ℕ, List, drop, Err, ap, ◌∙◌, subst}
use Rattle.lent.specs.declared.memory.Lent.{Lent}
use Rattle.literal.specs.Machine.{count_of}
use Rattle.literal.specs.Memory.{Puts}
use Rattle.literal.proofs.Refusing.{chosen, found, refused_by, decoded}
use Rattle.literal.proofs.Standing.{refused_at}
use Rattle.literal.proofs.token.Token.as_string.Goals as goal

held : {a b : List ℕ} {old new : Lent ℕ} → a ≡ b → Puts a old new → Puts b old new
held {a} {b} {old} {new} e p = subst (λ l. Puts l old new) e p

pub escape_place-requires : goal.escape_place-requires
escape_place-requires c = let r = refused_at c.in-Some.inner.text.now c.in-Err.at (subst (λ l. Err c.in-Err.at ≡ count_of l) c.as_bytes-bytes.ensures.value c.in-Err.ensures.value) in (r.1, r.2)

pub returns-in-Err : goal.returns-in-Err
returns-in-Err c =
    let t = c.args.self.now.text.now in
    let s = c.args.self.now.span in
    let i = c.in-Some.inner.text.now in
    let v = c.as_bytes-bytes.ensures.value in
    let h = found _ i c.contains.result c.contains.ensures.value v c.if-not-contains.false in
    let r = refused_at i c.in-Err.at (subst (λ l. Err c.in-Err.at ≡ count_of l) v c.in-Err.ensures.value) in
    let d = decoded t s c.in-Some.inner.span i _ c.in-Some.ensures h v in
    record {
      value = ap Err (chosen s c.escape_place.result c.map_or.result c.map_or.ensures) ∙ refused_by t s c.in-Some.inner.span c.args.text.now.used i (drop c.in-Err.at i) c.escape_place.result c.in-Some.ensures h r.0 c.escape_place.ensures;
      memory = held d c.in-Err.ensures.memory;
    }
