-- `store::perform` meets its contract: each arm is given which call was asked, and its callee keeps that promise.
-- Assumes nothing.
use mathlib.Core.Path.{◌≡◌, sym, subst}
use Rattle.cabinet_rules.specs.Images.{Image}
use Rattle.promise.specs.Promise.{Answered, Done, asked}
use Rattle.promise.specs.declared.Call.{Call}
use Rattle.store.proofs.perform.Goals as goal

-- What is promised of the call at hand is promised of the call that was asked.
told : {k call : Call} {m n : Image} {r : Answered} → call ≡ k → Done (asked k) m r n → Done (asked call) m r n
told {k} {call} {m} {n} {r} e done = subst (λ (a : Call). Done (asked a) m r n) (sym e) done

pub returns-in-Start : goal.returns-in-Start
returns-in-Start c = told c.in-Start.is c.start.ensures

pub returns-in-Begin : goal.returns-in-Begin
returns-in-Begin c = told c.in-Begin.is c.begin.ensures

pub returns-in-Get : goal.returns-in-Get
returns-in-Get c = told c.in-Get.is c.get.ensures

pub returns-in-Store : goal.returns-in-Store
returns-in-Store c = told c.in-Store.is c.store.ensures

pub returns-in-Delete : goal.returns-in-Delete
returns-in-Delete c = told c.in-Delete.is c.delete.ensures

pub returns-in-Commit : goal.returns-in-Commit
returns-in-Commit c = told c.in-Commit.is c.commit.ensures

pub returns-in-Rollback : goal.returns-in-Rollback
returns-in-Rollback c = told c.in-Rollback.is c.rollback.ensures

pub returns-in-Fit : goal.returns-in-Fit
returns-in-Fit c = told c.in-Fit.is c.fit.ensures

pub returns-in-Withdraw : goal.returns-in-Withdraw
returns-in-Withdraw c = told c.in-Withdraw.is c.withdraw.ensures

pub returns-in-Place : goal.returns-in-Place
returns-in-Place c = told c.in-Place.is c.place.ensures

pub returns-in-Fail : goal.returns-in-Fail
returns-in-Fail c = told c.in-Fail.is c.fail.ensures

pub returns-in-Move : goal.returns-in-Move
returns-in-Move c = told c.in-Move.is c.move_block.ensures

pub returns-in-Settle : goal.returns-in-Settle
returns-in-Settle c = told c.in-Settle.is c.settle.ensures

pub returns-in-State : goal.returns-in-State
returns-in-State c = told c.in-State.is c.state.ensures

pub returns-in-Load : goal.returns-in-Load
returns-in-Load c = told c.in-Load.is c.load.ensures
