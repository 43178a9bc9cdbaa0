use Rattle.vk_views.proofs.Auctions.{replies_are_texts, posted_are_theirs, others_give_the_views}
use Rattle.vk_views.proofs.laws.what_is_handed_out_is_the_views.Goals as goal

pub returns : goal.returns
returns c = record {
  replies = replies_are_texts;
  posted = posted_are_theirs;
  others = others_give_the_views;
}
