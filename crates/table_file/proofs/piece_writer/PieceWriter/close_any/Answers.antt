use Rattle.std.proofs.Common.{◌∙◌, ℕ, Option, ap, sym, arith}
use Rattle.table_file.specs.Limits.{IsRefused}
use Rattle.table_file.specs.PieceWriting.{PieceParts}
use Rattle.table_file.specs.Taking.{Takes}
use Rattle.table_file.specs.declared.put_fault.PutFault.{PutFault}
use Rattle.table_file.proofs.PiecePushes.{all_closed, none_left, none_refused, taken_last, fault_last}
use Rattle.table_file.proofs.piece_writer.PieceWriter.close_any.Goals as goal

pub returns-then-not-self-clause-tables : goal.returns-then-not-self-clause-tables
returns-then-not-self-clause-tables g c = λ keys s cut.
    all_closed g.F.TableHandle _ c.args.self.now keys s cut (ap (λ (w : PieceParts g.row.F.Denot). w.is_open) (sym c.self.view_is) ∙ c.if-not-self.true)

pub returns-then-not-self-clause-taken : goal.returns-then-not-self-clause-taken
returns-then-not-self-clause-taken g c = λ keys s cut.
    let none = none_left g.F.TableHandle _ c.args.self.now keys s cut (ap (λ (w : PieceParts g.row.F.Denot). w.is_open) (sym c.self.view_is) ∙ c.if-not-self.true) in
    let fits = g.met.M.Maker.taken_fits c.args.maker.now in
    omega (arith, none, fits)

pub returns-then-not-self-clause-limit : goal.returns-then-not-self-clause-limit
returns-then-not-self-clause-limit g c = λ keys s cut.
    none_refused g.F.TableHandle _ c.args.self.now keys s cut (ap (λ (w : PieceParts g.row.F.Denot). w.is_open) (sym c.self.view_is) ∙ c.if-not-self.true)

pub returns-clause-taken : goal.returns-clause-taken
returns-clause-taken g c = λ keys s cut.
    taken_last g.F.TableHandle _ c.args.self.now keys s cut (ap (λ (w : PieceParts g.row.F.Denot). w.is_open) (sym c.self.view_is) ∙ c.if-not-self.false)
    (λ (n : ℕ). Takes n (g.M.Maker.taken c.args.maker.now) (g.M.Maker.taken c.close.new.maker) c.close.result)
    (λ p writes some. c.close.ensures.taken p writes some)

pub returns-clause-limit : goal.returns-clause-limit
returns-clause-limit g c = λ keys s cut.
    fault_last g.F.TableHandle _ c.args.self.now keys s cut (ap (λ (w : PieceParts g.row.F.Denot). w.is_open) (sym c.self.view_is) ∙ c.if-not-self.false)
    (λ (r : Option PutFault). IsRefused {T = Unit {0}} r c.close.result)
    (λ p writes some. c.close.ensures.limit p writes some)
