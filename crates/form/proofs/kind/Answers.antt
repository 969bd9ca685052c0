-- Each kind has its name.
use borrow.Author.Rules.{rules}
use Rattle.form.proofs.HeadWords.{kind_acceptor, kind_transducer, kind_enumerator, kind_beaver}
use Rattle.form.proofs.kind.Goals as goal

ruleset laws = (rules, kind_acceptor, kind_transducer, kind_enumerator, kind_beaver)

pub returns-in-Acceptor : goal.returns-in-Acceptor
returns-in-Acceptor c = search laws

pub returns-in-Transducer : goal.returns-in-Transducer
returns-in-Transducer c = search laws

pub returns-in-Enumerator : goal.returns-in-Enumerator
returns-in-Enumerator c = search laws

pub returns-in-Beaver : goal.returns-in-Beaver
returns-in-Beaver c = search laws
