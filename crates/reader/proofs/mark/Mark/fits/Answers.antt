use Rattle.reader.specs.declared.mark.Mark.TheVariants.{Begin, End, Token}
use Rattle.reader.proofs.Marks.{fit}
use Rattle.reader.proofs.mark.Mark.fits.Goals as goal

pub returns-in-Begin-Begin : goal.returns-in-Begin-Begin
returns-in-Begin-Begin c =
    fit Begin (λ k j s r e. cc) _ _ _ _ _ _ c.in-Begin-Begin.is-0 c.in-Begin-Begin.is-1 c.eq.ensures

pub returns-in-End-End : goal.returns-in-End-End
returns-in-End-End c = fit End (λ k j s r e. cc) _ _ _ _ _ _ c.in-End-End.is-0 c.in-End-End.is-1 c.eq-in-End-End.ensures

pub returns-in-Token-Token : goal.returns-in-Token-Token
returns-in-Token-Token c =
    fit Token (λ k j s r e. cc) _ _ _ _ _ _ c.in-Token-Token.is-0 c.in-Token-Token.is-1 c.eq-in-Token-Token.ensures
