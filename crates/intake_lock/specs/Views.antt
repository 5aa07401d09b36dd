-- What passes know, and how it changes.
use Rattle.std.specs.Prelude.{◌≡◌, ℕ, ◌+◌, ◌-◌, nat_lt, if◌then◌else◌, List, [], ◌++◌, length, None}
use Rattle.act_model.specs.declared.entry.Entry.{Entry}
use Rattle.act_model.specs.declared.keeper.Office.{Office}
use Rattle.intake_lock.specs.declared.view.Item.{Item}
use Rattle.intake_lock.specs.declared.view.Role.{Role}
use Rattle.intake_lock.specs.declared.view.Role.TheVariants.{Root, Branch, Spent}
use Rattle.intake_lock.specs.declared.view.Stage.{Stage}
use Rattle.intake_lock.specs.declared.view.Stage.TheVariants.{Idle, Waiting, Holding}
use Rattle.intake_lock.specs.declared.view.View.{View}
use Rattle.intake_lock.specs.Items.{rises}

-- the history that a pass has seen
abbrev pub history_seen : View → List Entry
history_seen v = v.office.state.settled

-- ---- what is counted

abbrev pub one_if_live : Role → ℕ
one_if_live (Root out) = 1
one_if_live Branch = 1
one_if_live Spent = 0

-- 1 for a pass that wasn't joined into another
abbrev pub live : View → ℕ
live v = one_if_live v.role

abbrev pub one_if_ticketed : Stage → ℕ
one_if_ticketed Idle = 0
one_if_ticketed (Waiting ticket) = 1
one_if_ticketed (Holding ticket) = 1

-- 1 for a pass that has drawn a ticket and not left yet
abbrev pub ticket_count : View → ℕ
ticket_count v = one_if_ticketed v.stage

abbrev pub made_by : View → ℕ
made_by v = v.made

-- by how much the count of faults rose in a pass's calls
abbrev pub rises_by : View → ℕ
rises_by v = rises v.mine

-- ---- kinds of passes

abbrev pub HasTicketAt : Stage → ℕ → Type 0
HasTicketAt Idle ticket = ⊥
HasTicketAt (Waiting t) ticket = t ≡ ticket
HasTicketAt (Holding t) ticket = t ≡ ticket

abbrev pub HasTicket : View → ℕ → Type 0
HasTicket v ticket = HasTicketAt v.stage ticket

abbrev pub HasTurnAt : Stage → Type 0
HasTurnAt Idle = ⊥
HasTurnAt (Waiting t) = ⊥
HasTurnAt (Holding t) = Unit {0}

-- the pass has the turn
abbrev pub HasTurn : View → Type 0
HasTurn v = HasTurnAt v.stage

-- ---- how a view changes

-- the first pass of a lock over an office
abbrev pub first_view : Office → View
first_view office = record { role = Root 0; stage = Idle; office = office; also = []; mine = []; made = 0 }

abbrev pub waiting_view : ℕ → View → View
waiting_view ticket v = record v { stage = Waiting ticket }

-- the pass has the turn, and has seen the office
abbrev pub holding_view : ℕ → Office → View → View
holding_view ticket office v = record v { stage = Holding ticket; office = office }

-- the office after these calls was seen, which are the pass's own
abbrev pub published_view : Office → List Item → View → View
published_view office items v =
    record v {
      office = office;
      mine = items ++ v.mine;
      made = v.made + (length office.state.settled - length (history_seen v));
    }

abbrev pub idle : View → View
idle v = record v { stage = Idle }

abbrev pub one_out : Role → Role
one_out (Root out) = Root (out + 1)
one_out Branch = Branch
one_out Spent = Spent

abbrev pub one_in : Role → Role
one_in (Root out) = Root (out - 1)
one_in Branch = Branch
one_in Spent = Spent

-- the root after a split
abbrev pub stem : View → View
stem v = record v { role = one_out v.role }

-- the new branch: it has seen as much, and has made no calls
abbrev pub branch : View → View
branch v = record { role = Branch; stage = Idle; office = v.office; also = []; mine = []; made = 0 }

abbrev pub longer_office : Office → Office → Office
longer_office a b = if nat_lt (length a.state.settled) (length b.state.settled) then b else a

abbrev pub shorter_office : Office → Office → Office
shorter_office a b = if nat_lt (length a.state.settled) (length b.state.settled) then a else b

-- two passes together: the longer history, both one's calls, and what both made
abbrev pub joint_view : View → View → View
joint_view v w =
    record {
      role = one_in v.role;
      stage = Idle;
      office = longer_office v.office w.office;
      also = (shorter_office v.office w.office).state.settled;
      mine = w.mine ++ v.mine;
      made = v.made + w.made;
    }

-- what is left of a pass that was joined
abbrev pub spent_view : View
spent_view =
    record {
      role = Spent;
      stage = Idle;
      office = record {
        founder = record { len = 0; bytes = [] };
        limit = None;
        state = record { settled = []; doubt = None };
        faults = 0;
        stamps = None;
      };
      also = [];
      mine = [];
      made = 0;
    }
