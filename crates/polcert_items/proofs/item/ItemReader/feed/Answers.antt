use Rattle.std.proofs.Common.{None, subst, rules, arith}
use Rattle.polcert_items.proofs.Common.{IfErr-weaker, on_ok_weaker, states_known, lexeme_of, entry_sign, IsSeen}
use Rattle.polcert_items.specs.declared.item.ItemReader.TheVariants as items
use Rattle.polcert_items.proofs.PatternLaws.{each_refused_map}
use Rattle.polcert_items.proofs.StartSeen.{sign_ends}
use Rattle.polcert_items.proofs.ItemReading.{all_fed, all_refused, elements_seen, states_reason, actions_reason, observations_reason}
use Rattle.polcert_items.proofs.ItemReading.{start_fed, start_refused}
use Rattle.polcert_items.proofs.item.ItemReader.feed.Goals as goal

pub returns-in_ok-feed-in-Discount : goal.returns-in_ok-feed-in-Discount
returns-in_ok-feed-in-Discount c = grind (arith, sign_ends)

pub returns-in_ok-feed-in-Values : goal.returns-in_ok-feed-in-Values
returns-in_ok-feed-in-Values c = record {
  topic = search rules;
  fed = record {
    within = tt;
    takes = search rules;
    formed = search rules;
    seen = λ body s. sign_ends None body (lexeme_of c.args.token) c.in_ok-feed-in-Values.ensures.sign;
    leads = search rules;
  };
  refused = tt;
}

pub returns-in-States : goal.returns-in-States
returns-in-States c =
    let e = c.feed-in-States.ensures in
    let l = lexeme_of c.args.token in
    let known = c.args.known.now in
    record {
      topic = search rules;
      fed = all_fed c.feed-in-States.result known c.args.self.now (items.States c.feed-in-States.new.self) l (search rules) (search rules)
          (search rules)
          (λ body s. elements_seen c.feed-in-States.result body l c.feed-in-States.new.self e.sign
          (e.seen body (subst (IsSeen (states_known known) body) c.in-States.is s).1)) (search rules);
      refused = all_refused c.feed-in-States.result known c.args.self.now l (search rules) (search rules)
          (λ body s. IfErr-weaker _ _ _ (λ stop h. each_refused_map stop
          (λ f x. states_reason c.args.self.now c.in-States.reader body l f.kind f.place (states_known known) s x c.in-States.is) h)
          c.feed-in-States.ensures.fed.reason)
          (search rules) (λ body s. search rules) (λ body more ends late s start due. search rules);
    }

pub returns-in-Actions : goal.returns-in-Actions
returns-in-Actions c =
    let e = c.feed-in-Actions.ensures in
    let l = lexeme_of c.args.token in
    let known = c.args.known.now in
    record {
      topic = search rules;
      fed = all_fed c.feed-in-Actions.result known c.args.self.now (items.Actions c.feed-in-Actions.new.self) l (search rules)
          (search rules) (search rules)
          (λ body s. elements_seen c.feed-in-Actions.result body l c.feed-in-Actions.new.self e.sign
          (e.seen body (subst (IsSeen (states_known known) body) c.in-Actions.is s).1)) (search rules);
      refused = all_refused c.feed-in-Actions.result known c.args.self.now l (search rules) (search rules)
          (λ body s. IfErr-weaker _ _ _ (λ stop h. each_refused_map stop
          (λ f x. actions_reason c.args.self.now c.in-Actions.reader body l f.kind f.place (states_known known) s x c.in-Actions.is) h)
          c.feed-in-Actions.ensures.fed.reason)
          (search rules) (λ body s. search rules) (λ body more ends late s start due. search rules);
    }

pub returns-in-Observations : goal.returns-in-Observations
returns-in-Observations c =
    let e = c.feed-in-Observations.ensures in
    let l = lexeme_of c.args.token in
    let known = c.args.known.now in
    record {
      topic = search rules;
      fed = all_fed c.feed-in-Observations.result known c.args.self.now (items.Observations c.feed-in-Observations.new.self) l
          (search rules) (search rules) (search rules)
          (λ body s. elements_seen c.feed-in-Observations.result body l c.feed-in-Observations.new.self e.sign
          (e.seen body (subst (IsSeen (states_known known) body) c.in-Observations.is s).1)) (search rules);
      refused = all_refused c.feed-in-Observations.result known c.args.self.now l (search rules) (search rules)
          (λ body s. IfErr-weaker _ _ _ (λ stop h. each_refused_map stop
          (λ f x. observations_reason c.args.self.now c.in-Observations.reader body l f.kind f.place (states_known known) s x
          c.in-Observations.is) h) c.feed-in-Observations.ensures.fed.reason)
          (search rules) (λ body s. search rules) (λ body more ends late s start due. search rules);
    }

pub returns-in-Start : goal.returns-in-Start
returns-in-Start c =
    let e = c.feed-in-Start.ensures in
    record {
      topic = search rules;
      fed = on_ok_weaker _
          (start_fed c.args.known.now c.states.result.now c.args.self.now c.in-Start.reader c.feed-in-Start.new.self
          (lexeme_of c.args.token) c.states.ensures.states c.in-Start.is)
          e.fed;
      refused = start_refused c.args.known.now c.states.result.now c.args.self.now c.in-Start.reader (lexeme_of c.args.token)
          c.feed-in-Start.result c.states.ensures.states c.in-Start.is e.late e.held e.refused;
    }

pub returns-in-Entry : goal.returns-in-Entry
returns-in-Entry c =
    let l = lexeme_of c.args.token in
    record {
      topic = search rules;
      fed = all_fed c.feed-in-Entry.result c.args.known.now c.args.self.now (items.Entry c.feed-in-Entry.new.self) l (search rules)
          (search rules) (search rules)
          (λ body s. on_ok_weaker _ (sign_ends (entry_sign c.feed-in-Entry.new.self.state) body l) c.feed-in-Entry.ensures.sign)
          (search rules);
      refused = all_refused c.feed-in-Entry.result c.args.known.now c.args.self.now l (search rules) (search rules)
          (λ body s. search rules) (search rules) (λ body s. search rules) (λ body more ends late s start due. search rules);
    }
