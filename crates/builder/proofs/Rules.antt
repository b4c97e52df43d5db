-- What was read of one symbol, for another.
use Rattle.std.proofs.Common.{ℕ, length, Bool, Ok, Err, Result, ap, subst, arith}
use Rattle.refusal.specs.declared.refusal.Refusal.{Refusal}
use Rattle.tree.specs.declared.place.Placer.{Placer}
use Rattle.reader.specs.declared.mark.Mark.{Mark}
use Rattle.reader.specs.declared.reader.Reader.{Reader}
use Rattle.reader.specs.Symbols.{Sym}
use Rattle.reader.specs.Contract.{Conf, conf, Read, Fail, Saw}
use Rattle.reader.proofs.Takes.{kept_trans}
use Rattle.reader.proofs.Within.{RuleAt, read_map, fail_map}
use Rattle.builder.specs.Builds.{Builds, Room}

-- in front of the row, the words of f are those of g
pub by_builds : {A B Y : Type 0} {d : Bool} {h : ℕ} {f : Sym A} {g : Sym B} {into : B → A} {P : A → Y → Type 0} {Q : B → Y → Type 0} {p p' : Reader} {o o' : Placer} → (r : Result Y Refusal) → RuleAt f g into (conf p).rest → ((b : B) (y : Y) → Q b y → P (into b) y) → Builds d h g Q p o p' o' r → Builds d h f P p o p' o' r
by_builds {into = into} (Ok y) l q b =
    let x = b.parses.outcome in
    record {
      lent = b.lent;
      parses =
          record {
            kept = b.parses.kept;
            outcome = record { value = into x.value; read = read_map into l.from x.read; fresh = x.fresh; post = (x.post.0, q x.value y x.post.1) };
          };
    }
by_builds (Err e) l q b =
    let x = b.parses.outcome in
    record { lent = b.lent; parses = record { kept = b.parses.kept; outcome = record { place = x.place; fail = fail_map l x.fail; stops = x.stops } } }

-- an event was looked at
pub saw : {A Y : Type 0} {d : Bool} {h : ℕ} {f : Sym A} {P : A → Y → Type 0} {p p₁ p' : Reader} {o o' : Placer} {m : Mark} {b : Bool} → (r : Result Y Refusal) → Saw m p p₁ b → Builds d h f P p₁ o p' o' r → Builds d h f P p o p' o' r
saw {d = d} {f = f} {p' = p'} (Ok y) s b =
    let x = b.parses.outcome in
    let q = x.post.0 in
    record {
      lent = b.lent;
      parses =
          record {
            kept = kept_trans s.kept b.parses.kept;
            outcome =
                record {
                  value = x.value;
                  read = subst (λ (c : Conf). Read d f x.value c (conf p')) s.same x.read;
                  fresh = x.fresh;
                  post = (
                    record {
                      count = omega (arith, q.count, ap (λ (c : Conf). length c.rest) s.same);
                      place = λ l. q.place (omega (arith, l, ap (λ (c : Conf). c.state.last) s.same));
                    },
                    x.post.1,
                  );
                };
          };
    }
saw {f = f} (Err e) s b =
    let x = b.parses.outcome in
    record {
      lent = b.lent;
      parses =
          record {
            kept = kept_trans s.kept b.parses.kept;
            outcome = record { place = x.place; fail = subst (λ (c : Conf). Fail f e c x.place) s.same x.fail; stops = x.stops };
          };
    }

pub room_saw : {h : ℕ} {p p₁ : Reader} {o : Placer} {m : Mark} {b : Bool} → Saw m p p₁ b → Room h p o → Room h p₁ o
room_saw s r =
    record {
      count = omega (arith, r.count, ap (λ (c : Conf). length c.rest) s.same);
      place = omega (arith, r.place, ap (λ (c : Conf). c.state.last) s.same);
    }
